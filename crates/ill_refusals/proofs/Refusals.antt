-- A refusal is its fault.
use Rattle.std.proofs.Common.{◌≡◌, ℕ, ap, ap₂}
use Rattle.ill_schema.specs.declared.refusal.Cause.{Cause}
use Rattle.ill_schema.specs.declared.refusal.Refusal.{Refusal}
use Rattle.ill_refusals.specs.Fault.{fault_of}

abbrev made : ℕ → Cause → Refusal
made at cause = record { at = at; cause = cause }

-- refusals with the same fault are the same
pub same_refusal : (x y : Refusal) → fault_of x ≡ fault_of y → x ≡ y
same_refusal x y e = ap₂ (λ at cause. made at cause) (ap (λ f. f.at) e) (ap (λ f. f.cause) e)
