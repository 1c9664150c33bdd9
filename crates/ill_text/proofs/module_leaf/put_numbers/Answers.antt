use Rattle.std.proofs.Common.{◌≡◌, ap, sym, []}
use Rattle.std.specs.Prelude.{flat_map}
use Rattle.ill_schema.specs.Texts.{after_dot}
use Rattle.ill_grammar.specs.Identifiers.{numbers_in}
use Rattle.ill_text.proofs.Sent.{adds_as, adds_nothing, adds_then}
use Rattle.ill_grammar.specs.Marks.{octets_in}
use Rattle.ill_grammar.proofs.Identifiers.{exact_next}
use Rattle.ill_text.proofs.module_leaf.put_numbers.Goals as goal

pub numbers-preserved : goal.numbers-preserved
numbers-preserved g c = record {
  small = λ e. (exact_next (octets_in c.numbers.left.now) (octets_in c.in-Some.rest.now) _ c.in-Some.ensures.number (c.numbers.invariant.small e)).1;
  adds = λ e s h. c.numbers.invariant.adds e s (adds_as _ _ _ _ (sym (ap (flat_map after_dot) (exact_next (octets_in c.numbers.left.now) (octets_in c.in-Some.rest.now) _ c.in-Some.ensures.number (c.numbers.invariant.small e)).0)) (adds_then _ _ _ _ _ c.put_dotted.ensures.adds h));
  stays = λ h. c.put_dotted.ensures.stays (c.numbers.invariant.stays h);
}

pub returns-clause-adds : goal.returns-clause-adds
returns-clause-adds g c e =
    let none : numbers_in c.numbers.left.now ≡ [] = c.in_default.ensures.number in
    c.numbers.invariant.adds e _ (adds_as _ _ _ _ (sym (ap (flat_map after_dot) none)) (adds_nothing _))
