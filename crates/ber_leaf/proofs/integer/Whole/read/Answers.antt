use Rattle.std.proofs.Common.{◌<◌, ℕ, List, get_or, ap, ◌∙◌, arith, rules, FitsSigned, w64}
use Rattle.std.specs.Int.{from_be_bytes, cast_signed}
use Rattle.std.proofs.lemmas.Int.{to_z-of_z}
use Rattle.ber_leaf.proofs.Integers.{extended_value}
use Rattle.ber_tree.proofs.Octets.{octets_fit}
use Rattle.ber_leaf.proofs.integer.Whole.read.Goals as goal

pub returns : goal.returns
returns c =
    let fits : FitsSigned w64 c.from_be_bytes.result = search rules in
    to_z-of_z w64 c.from_be_bytes.result fits
    ∙ c.from_be_bytes.ensures
    ∙ ap (λ (bytes : List ℕ). cast_signed w64 (from_be_bytes w64 bytes)) c.sign_extended.ensures
    ∙ extended_value c.args.octets.now (octets_fit _ (λ i. let h : get_or c.args.octets.now i 0 < 256 = omega (arith, c.type_inv.octets i) in h)) c.requires.some c.requires.few
