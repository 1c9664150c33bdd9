use Rattle.std.proofs.Common.{inl, inr}
use Rattle.ill_inputs.proofs.DigitErrors.{of_digits}
use Rattle.ill_inputs.proofs.hexadecimal.spaced_octets.Goals as goal

pub unreachable-requires : goal.unreachable-requires
unreachable-requires c =
    let err = (rw c.in-Err-InvalidStringLength.field-0-is at c.in-Err-InvalidStringLength.ensures).err in
    elim err [
      | inl e ↦ cc
      | inr e ↦ of_digits _ e
    ]
