use Rattle.std.proofs.Common.{◌≡◌, ◌∙◌, ap, sym, []}
use Rattle.ill_schema.specs.Texts.{oid_components, with_dots}
use Rattle.ill_grammar.specs.Identifiers.{numbers_in}
use Rattle.ill_text.proofs.Sent.{adds_as, adds_nothing, adds_then}
use Rattle.ill_grammar.specs.Marks.{octets_in}
use Rattle.ill_grammar.proofs.Identifiers.{exact_next}
use Rattle.ill_text.proofs.Subidentifiers.{two_and_others}
use Rattle.ill_text.proofs.module_leaf.put_components.Goals as goal

pub returns-in_default-clause-adds : goal.returns-in_default-clause-adds
returns-in_default-clause-adds g c e =
    let none : numbers_in c.args.marks.now ≡ [] = c.in_default.ensures.number in
    adds_as _ _ _ _ (sym (ap (λ n. with_dots (oid_components n)) none)) (adds_nothing _)

pub returns-clause-adds : goal.returns-clause-adds
returns-clause-adds g c e =
    let first = exact_next (octets_in c.args.marks.now) (octets_in c.in-Some.rest.now) _ c.in-Some.ensures.number e in
    adds_as _ _ _ _ (two_and_others c.in-Some.number (numbers_in c.in-Some.rest.now) ∙ sym (ap (λ n. with_dots (oid_components n)) first.0)) (adds_then _ _ _ _ _ c.put_first_two.ensures.adds (c.put_numbers.ensures.adds first.1))
