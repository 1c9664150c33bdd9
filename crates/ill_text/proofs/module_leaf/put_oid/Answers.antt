use Rattle.std.proofs.Common.{◌≡◌, ◌∙◌, sym, true, false, rules}
use Rattle.ill_grammar.specs.Marks.{octets_in}
use Rattle.ill_text.proofs.Sent.{adds_as, adds_then}
use Rattle.ill_text.proofs.Subidentifiers.{great_text, small_text}
use Rattle.ill_text.proofs.module_leaf.put_oid.Goals as goal

pub returns-then-are_short-clause-adds : goal.returns-then-are_short-clause-adds
returns-then-are_short-clause-adds g c =
    let small : c.are_short.result ≡ true = search rules in
    let e = sym c.are_short.ensures ∙ small in
    adds_as _ _ _ _ (small_text (octets_in c.args.marks.now) e) (c.put_components.ensures.adds e)

pub returns-clause-adds : goal.returns-clause-adds
returns-clause-adds g c =
    let great : c.are_short.result ≡ false = search rules in
    adds_as _ _ _ _ (great_text (octets_in c.args.marks.now) (sym c.are_short.ensures ∙ great)) (adds_then _ _ _ _ _ c.put.ensures.adds c.put_hexadecimal.ensures.adds)
