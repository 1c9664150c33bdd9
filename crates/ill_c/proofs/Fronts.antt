-- What is at the front of octets.
use Rattle.std.proofs.Common.{◌≡◌, ℕ, List, [], Some, refl, sym, ap₂, subst, ◌∙◌, inl}
use Rattle.std.specs.Io.KnownBytes.{Consumes, IsAtEnd}
use Rattle.ill_schema.specs.Profiles.{profile_of}
use Rattle.ill_tables.specs.declared.profile.Profile.{Profile as Named}
use Rattle.ill_schema.specs.declared.refusal.Cause.{Cause}
use Rattle.ill_schema.specs.declared.refusal.Refusal.{Refusal}
use Rattle.ill_refusals.specs.Fault.{fault, fault_of}
use Rattle.ill_refusals.specs.Outcome.{OnlyRefuses}
use Rattle.ill_refusals.proofs.Continuations.{refused_at}
use Rattle.ill_refusals.proofs.OneOutcome.{truncated_size}
use Rattle.ill_read.specs.Answers.{IsPartIn, RefusesWholeIn}

-- no octets may go on to be a message
nothing_is_part : (q : Named) → IsPartIn (profile_of q) []
nothing_is_part q = refused_at (profile_of q) [] [] [] (fault Cause.Truncated 0) refl refl

pub none_part : (q : Named) (s left : List ℕ) → Consumes (Some s) (Some left) [] → IsAtEnd (Some left) → IsPartIn (profile_of q) s
none_part q s left taken ended = subst (IsPartIn (profile_of q)) (sym (taken ∙ ended)) (nothing_is_part q)

-- so they are refused as being cut off
pub none_refused : (q : Named) (s left : List ℕ) → Consumes (Some s) (Some left) [] → IsAtEnd (Some left)
    → RefusesWholeIn (profile_of q) s (fault Cause.Truncated 0)
none_refused q s left taken ended =
    subst (λ octets. RefusesWholeIn (profile_of q) octets (fault Cause.Truncated 0)) (sym (taken ∙ ended)) (inl (nothing_is_part q))

-- what is refused because it ends may go on
pub truncated_part : (q : Named) (s : List ℕ) (r : Refusal) → OnlyRefuses (profile_of q) s (fault_of r) → r.cause ≡ Cause.Truncated
    → IsPartIn (profile_of q) s
truncated_part q s r only e =
    let size = truncated_size (profile_of q) s (fault_of r) e only.0 in
    subst (OnlyRefuses (profile_of q) s) (ap₂ (λ cause (at : ℕ). fault cause at) e size) only
