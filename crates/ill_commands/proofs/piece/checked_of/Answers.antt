use Rattle.std.proofs.Common.{◌≡◌, ◌≤◌, length, ap, ◌∙◌, arith}
use Rattle.std.proofs.Math.Nat.{min-eq_left}
use Rattle.ill_schema.specs.Apdu.{normal_form_in}
use Rattle.ill_schema.specs.Profiles.{profile_of}
use Rattle.ill_commands.proofs.MadePieces.{tells_normal}
use Rattle.ill_commands.proofs.piece.checked_of.Goals as goal

pub returns : goal.returns
returns c profile wants octets h kept =
    let short : length (normal_form_in (profile_of profile) h.apdu) ≤ 1_048_576 = h.spells.normal_short in
    let len : length c.as_slice-size.result.now ≡ length (normal_form_in (profile_of profile) h.apdu) = ap length (c.as_slice-size.ensures.value ∙ h.normal) in (
      c.apdu_number.ensures profile h.apdu octets h.spells (c.deref.ensures.value ∙ h.normal),
      h.size,
      c.min.ensures ∙ min-eq_left (omega (arith, len, short)) ∙ len,
      tells_normal (profile_of profile) wants c.args.message.now octets h kept c.is_normal.result c.is_normal.ensures,
    )
