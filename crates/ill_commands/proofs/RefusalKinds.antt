-- What the module profile says of octets that profile 2 refuses.
use Rattle.std.proofs.Common.{◌≡◌, ◌⊎◌, ℕ, ◌<◌, ◌≤◌, true, false, List, [], ◌∷◌, length, Option, Some, refl, sym, subst, ◌∙◌, inl, inr, arith}
use Rattle.std.specs.Io.KnownBytes.{Consumes}
use Rattle.ber_leaf.specs.Profile.{Profile}
use Rattle.ill_schema.specs.Apdu.{Apdu, Accepts, SpellsApdu}
use Rattle.ill_schema.specs.Profiles.{profile_of}
use Rattle.ill_tables.specs.declared.profile.Profile.{Profile as Named}
use Rattle.ill_schema.specs.declared.refusal.Refusal.{Refusal}
use Rattle.ill_schema.proofs.Streams.{parts_accept, accepts_some}
use Rattle.ill_refusals.specs.Fault.{Fault, Refuses, fault_of}
use Rattle.ill_refusals.specs.Outcome.{OnlyRefuses}
use Rattle.ill_inputs.proofs.TakenOctets.{front}
use Rattle.ill_commands.specs.Refusals.{is_limit, IsNotRead}

abbrev q : Profile
q = profile_of Named.Module

some_octets : (s : List ℕ) → (s ≡ [] → ⊥) → 0 < length s
some_octets [] full = absurd (full refl)
some_octets (x ∷ s) full = omega arith

-- they begin with a message
pub reads_message : (s : List ℕ) (left' : Option (List ℕ)) (b : List ℕ) (a : Apdu) (refusal : Refusal) → Consumes (Some s) left' b → SpellsApdu q a b → IsNotRead Named.Two s refusal
reads_message s left' b a refusal c spells =
    let t = front s left' b c in
    let accepts = parts_accept q s a b t.0 t.1 spells in
    inr (refl, (some_octets s (λ e. accepts_some q s a (length b) e accepts), inl (a, length b, accepts)))

-- they are refused after the offset
pub reads_further : (s : List ℕ) (refusal other : Refusal) → 0 < length s → OnlyRefuses q s (fault_of other) → refusal.at < other.at → IsNotRead Named.Two s refusal
reads_further s refusal other some only lt = inr (refl, (some, inr (fault_of other, only.0, lt)))

module _ (s : List ℕ) (refusal : Refusal) (no_limit : is_limit refusal.cause ≡ false) where
  -- they are refused at the offset or before it
  pub reads_no_further : (other : Refusal) → OnlyRefuses q s (fault_of other) → other.at ≤ refusal.at → IsNotRead Named.Two s refusal → ⊥
  reads_no_further other only at (inl limit) = absurd (let e : true ≡ false = sym limit ∙ no_limit in cc)
  reads_no_further other only at (inr h) = past h.1.1
    where
      past : ((a : Apdu) × (n : ℕ) × Accepts q s a n) ⊎ ((f : Fault) × Refuses q s f × (refusal.at < f.at)) → ⊥
      past (inl k) = only.2 k.0 k.1 k.2
      past (inr k) = absurd (let lt : refusal.at < other.at = subst (λ (f : Fault). refusal.at < f.at) (only.1 k.0 k.1) k.2 in omega (arith, lt, at))
