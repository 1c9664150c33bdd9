-- The octets of an element that are taken from a source and recorded.
use Rattle.std.specs.Prelude.{◌≡◌, ◌⊎◌, ℕ, ◌-◌, ◌<◌, ◌≤◌, Bool, true, false, List, [], ◌∷◌, ◌++◌, length, take, Option, Some, None}
use Rattle.std.specs.Io.KnownBytes.{Consumes, IsAtEnd}
use Rattle.ill_schema.specs.declared.refusal.Cause.{Cause}
use Rattle.ill_inputs.specs.declared.run_fault.RunFault.{RunFault}
use Rattle.ill_normal.specs.Messages.{counted}
use Rattle.ber_framing.specs.declared.framer.Framing.{Framing}
use Rattle.ber_framing.specs.declared.framer.Framing.TheVariants as frame
use Rattle.ber_framing.specs.declared.framer.Framer.{Framer}
use Rattle.ber_framing.specs.Framed.{IsPartOfFrame, IsUnframed}
use Rattle.ber_framing.specs.Framer.{HasFraming, IsFed}

-- a framer was fed the octets that were taken, and the first 1,048,576 of them were recorded
pub record IsFraming (left left' : Option (List ℕ)) (framer : Framer) (recorded : List ℕ) (least size : ℕ) : Type 0 where
  pub octets : List ℕ
  pub taken : Consumes left left' octets
  pub fed : IsFed framer octets
  pub within : (n : ℕ) → n < length octets → IsPartOfFrame (take n octets)
  pub keeps : recorded ≡ take 1_048_576 octets
  pub counts : least ≤ length octets
  pub size_is : size ≡ counted (length octets)

-- more octets were taken, and those of the first 1,048,576 were recorded
pub record Takes (left left' : Option (List ℕ)) (framer framer' : Framer) (recorded recorded' : List ℕ) (n : ℕ) : Type 0 where
  pub octets : List ℕ
  pub size : n ≡ length octets
  pub taken : Consumes left left' octets
  pub fed : (b : List ℕ) → IsFed framer b → IsFed framer' (b ++ octets)
  pub within : (b : List ℕ) (k : ℕ) → IsFed framer b → k < length octets → IsPartOfFrame (b ++ take k octets)
  pub none : (b : List ℕ) → n ≡ 0 → IsFed framer b → IsPartOfFrame b → IsAtEnd left'
  pub keeps : recorded' ≡ recorded ++ take (1_048_576 - length recorded) octets

-- an element of `size` octets was taken, as far as its end can be known, and its first 1,048,576 octets were recorded
pub record TakesElement (left left' : Option (List ℕ)) (recorded : List ℕ) (size : ℕ) (frame : Framing) : Type 0 where
  pub octets : List ℕ
  pub taken : Consumes left left' octets
  pub judged : HasFraming octets frame
  pub within : (n : ℕ) → n < length octets → IsPartOfFrame (take n octets)
  pub keeps : recorded ≡ take 1_048_576 octets
  pub part : IsPartOfFrame octets → IsAtEnd left' ⊎ (18_446_744_073_709_551_615 ≤ length octets)
  pub size_is : size ≡ counted (length octets)

-- octets with which no element begins were taken, and then some that say more of why
pub record TakesUnframed (left left' : Option (List ℕ)) (recorded : List ℕ) : Type 0 where
  pub octets : List ℕ
  pub more : List ℕ
  pub taken : Consumes left left' (octets ++ more)
  pub unframed : IsUnframed octets
  pub within : (n : ℕ) → n < length octets → IsPartOfFrame (take n octets)
  pub keeps : recorded ≡ take 1_048_576 (octets ++ more)

-- one of the two
abbrev pub Took : Option (List ℕ) → Option (List ℕ) → List ℕ → ℕ → Framing → Type 0
Took left left' recorded size frame.Unframed = TakesUnframed left left' recorded
Took left left' recorded size frame.Whole = TakesElement left left' recorded size frame.Whole
Took left left' recorded size frame.Part = TakesElement left left' recorded size frame.Part

-- an octet was taken and recorded; or the input ends
abbrev pub TakesOctet : Option (List ℕ) → Option (List ℕ) → List ℕ → List ℕ → Bool → Type 0
TakesOctet left left' recorded recorded' true =
    (octet : ℕ) × Consumes left left' (octet ∷ []) × (recorded' ≡ recorded ++ take (1_048_576 - length recorded) (octet ∷ []))
TakesOctet left left' recorded recorded' false = (recorded' ≡ recorded) × Consumes left left' [] × IsAtEnd left'

-- an octet more was taken and recorded, since an element's end can't be known and its octets are refused as ending too early; or none was, since
-- they aren't, or since the input ends there
abbrev pub TakesWhereCut : Option (List ℕ) → Option (List ℕ) → List ℕ → List ℕ → Framing → Cause → Bool → Type 0
TakesWhereCut left left' recorded recorded' framing cause true =
    (framing ≡ frame.Unframed) × (cause ≡ Cause.Truncated) × TakesOctet left left' recorded recorded' true
TakesWhereCut left left' recorded recorded' framing cause false =
    (recorded' ≡ recorded) × (((left' ≡ left) × (framing ≡ frame.Unframed → cause ≡ Cause.Truncated → ⊥)) ⊎ ((framing ≡ frame.Unframed) × Consumes left left' [] × IsAtEnd left'))

-- memory or the source failed
abbrev pub IsTakeFault : RunFault → Type 0
IsTakeFault RunFault.OutOfMemory = Unit {0}
IsTakeFault RunFault.ReadFault = Unit {0}
IsTakeFault _ = ⊥

-- octets were taken after those, and all are part of an element
abbrev pub TakesPartAfter : Option (List ℕ) → Option (List ℕ) → List ℕ → Type 0
TakesPartAfter left left' b = (octets : List ℕ) × Consumes left left' octets × IsPartOfFrame (b ++ octets) × ((n : ℕ) → n < length octets → IsPartOfFrame (b ++ take n octets))

-- how many octets an element has whose end was found
abbrev pub end_of : Framing → ℕ → Option ℕ
end_of frame.Whole size = Some size
end_of _ size = None
