use Rattle.std.proofs.Common.{◌∙◌, ap, sym}
use Rattle.ber_leaf.specs.Leaf.{cleared_last}
use Rattle.ill_text.specs.code.Bits.{filled_text}
use Rattle.ill_text.proofs.FilledOctets.{split}
use Rattle.ill_text.proofs.OctetMarks.{no_octets}
use Rattle.ill_text.proofs.Sent.{adds_as, adds_nothing, adds_then}
use Rattle.ill_text.proofs.module_leaf.put_filled.Goals as goal

pub returns-in_default-clause-adds : goal.returns-in_default-clause-adds
returns-in_default-clause-adds g c octets few e =
    adds_as _ _ _ _ (sym (ap (λ o. filled_text (cleared_last c.args.unused o)) (no_octets octets c.args.marks.now e c.in_default.ensures.cases))) (adds_nothing _)

pub returns-clause-adds : goal.returns-clause-adds
returns-clause-adds g c octets few e =
    let s = split octets c.in-Some.front.now c.in-Some.last.now (sym e ∙ c.in-Some.ensures.cases.0) in
    adds_as _ _ _ _ (s.text c.args.unused) (adds_then _ _ _ _ _ c.put.ensures.adds (adds_then _ _ _ _ _ c.put_hexadecimal.ensures.adds (c.put_last.ensures.adds s.octet few s.is)))
