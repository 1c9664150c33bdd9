-- Inputs that have to be at their ends.
use Rattle.std.specs.Prelude.{ℕ, Bool, List, [], ◌∷◌, Option, IsTrue}
use Rattle.std.specs.Io.KnownBytes.{Consumes, Keeps}
use Rattle.ill_inputs.specs.declared.run_fault.RunFault.{RunFault}

-- an octet more was taken, or the source broke and none was
abbrev pub GoesOn : Option (List ℕ) → Option (List ℕ) → Bool → RunFault → Type 0
GoesOn left left' broken RunFault.TooManyMessages = (octet : ℕ) × Consumes left left' (octet ∷ [])
GoesOn left left' broken RunFault.ReadFault = IsTrue broken × Keeps left left'
GoesOn left left' broken _ = ⊥
