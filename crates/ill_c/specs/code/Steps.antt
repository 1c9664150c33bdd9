-- What the steps of a call do.
use Rattle.std.specs.Prelude.{◌≡◌, ℕ, List, Option, Some, None, Result, Ok, Err}
use Rattle.ber_leaf.specs.Profile.{Profile}
use Rattle.ill_schema.specs.Apdu.{Apdu, Accepts, normal_form_in}
use Rattle.ill_refusals.specs.Fault.{fault_of}
use Rattle.ill_read.specs.Answers.{IsPartIn, IsRefusedIn, RefusesWholeIn}
use Rattle.ill_read.specs.Outlined.{IsOutlinedIn}
use Rattle.ill_read.specs.declared.outlined.OutlinedMessage.{OutlinedMessage}
use Rattle.ill_read.specs.declared.failure.Failure.{Failure}
use Rattle.ill_read.specs.declared.normal.NormalForm.{NormalForm}
use Rattle.ill_c.specs.declared.refusal.IllcanonRefusal.{IllcanonRefusal}
use Rattle.ill_c.specs.declared.status.Status.{Status}
use Rattle.ill_c.specs.Memory.{Change, Stays}
use Rattle.ill_c.specs.Refusals.{reported}

-- a failure was reported
abbrev pub IsReported : Failure → Change IllcanonRefusal → Status → Type 0
IsReported (Failure.Refused it) refusal status = (status ≡ Status.Refused) × (refusal.after ≡ reported (fault_of it))
IsReported Failure.OutOfMemory refusal status = (status ≡ Status.OutOfMemory) × Stays refusal

-- of octets, at whose front a message of the profile may be
abbrev pub FrontAnswers : Profile → List ℕ → Result (Option NormalForm) Failure → Type 0
FrontAnswers p s (Ok (Some normal)) = (a : Apdu) × Accepts p s a normal.input_len × (normal.octets.items ≡ normal_form_in p a)
FrontAnswers p s (Ok None) = IsPartIn p s
FrontAnswers p s (Err failure) = IsRefusedIn p s failure

-- of octets that are to be one message of the profile, whose outline and normal form are read
abbrev pub OutlineAnswers : Profile → List ℕ → Result OutlinedMessage Failure → Type 0
OutlineAnswers p s (Ok read) = IsOutlinedIn p read s
OutlineAnswers p s (Err (Failure.Refused refusal)) = RefusesWholeIn p s (fault_of refusal)
OutlineAnswers p s (Err Failure.OutOfMemory) = Unit {0}
