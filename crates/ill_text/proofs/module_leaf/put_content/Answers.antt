use Rattle.std.proofs.Common.{◌≡◌, true, false, sym, ap, ◌∙◌, rules, ◌++◌, codes, take}
use Rattle.std.specs.Prelude.{flat_map}
use Rattle.std.specs.List.{list_all}
use Rattle.ber_leaf.specs.Profile.{is_graphic}
use Rattle.ill_schema.specs.Texts.{hexadecimal}
use Rattle.ill_text.specs.Shown.{escaped}
use Rattle.ill_grammar.specs.Marks.{leading_octets, octets_in}
use Rattle.ill_grammar.proofs.MarkedValues.{octets_back}
use Rattle.ill_text.proofs.OctetMarks.{content_hexadecimal, content_quoted, front_all}
use Rattle.ill_text.proofs.Sent.{adds_as, adds_then}
use Rattle.ill_text.proofs.module_leaf.put_content.Goals as goal

pub returns-then-not-are_graphic-clause-adds : goal.returns-then-not-are_graphic-clause-adds
returns-then-not-are_graphic-clause-adds g c octets e =
    let no : c.are_graphic.result ≡ false = search rules in
    let same = ap octets_in e ∙ octets_back octets in
    adds_as _ _ _ _ (ap hexadecimal same ∙ content_hexadecimal octets (ap (list_all is_graphic) (sym same) ∙ sym c.are_graphic.ensures ∙ no)) c.put_hexadecimal.ensures.adds

pub returns-clause-adds : goal.returns-clause-adds
returns-clause-adds g c octets e =
    let yes : c.are_graphic.result ≡ true = search rules in
    let same = ap octets_in e ∙ octets_back octets in
    let front = ap (λ n. octets_in (take n c.args.marks.now)) c.put_escaped.ensures.exact ∙ ap (λ ms. octets_in (take (leading_octets ms) ms)) e ∙ front_all octets in
    adds_as _ _ _ _ (ap (λ o. codes "\"" ++ flat_map escaped o ++ codes "\"") front ∙ content_quoted octets (ap (list_all is_graphic) (sym same) ∙ sym c.are_graphic.ensures ∙ yes))
    (adds_then _ _ _ _ _ (adds_then _ _ _ _ _ c.put.ensures.adds c.put_escaped.ensures.adds) c.put-2.ensures.adds)
