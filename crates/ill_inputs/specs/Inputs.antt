-- What is said of an input: what its lines begin with, the verdict of a job on it, and the octets that its hexadecimal text stands for.
use Rattle.std.specs.Prelude.{◌≡◌, ◌⊎◌, ℕ, Bool, true, false, List, [], ◌++◌, codes, Option, Ok, Err, IsTrue}
use Rattle.ill_inputs.specs.Hexadecimal.{hex_octets, TakesText}
use Rattle.ill_inputs.specs.TakenOctets.{TakesAtMost}
use Rattle.ill_inputs.specs.declared.run_fault.RunFault.{RunFault}
use Rattle.ill_inputs.specs.declared.verdict.Verdict.{Verdict}

-- what the lines of an input begin with: its name, or nothing
abbrev pub label_of : Bool → List ℕ → List ℕ
label_of true name = name ++ codes ": "
label_of false name = []

abbrev pub verdict_if : Bool → Verdict
verdict_if true = Verdict.Good
verdict_if false = Verdict.NotGood

-- a text was taken that stands for these octets
pub record TextOf (left left' : Option (List ℕ)) (octets : List ℕ) : Type 0 where
  pub text : List ℕ
  pub taken : TakesText left left' text
  pub stands : hex_octets text ≡ Ok octets

-- a text was taken that stands for no octets, for this reason
pub record NoHex (left left' : Option (List ℕ)) (fault : RunFault) : Type 0 where
  pub text : List ℕ
  pub taken : TakesText left left' text
  pub stands : hex_octets text ≡ Err fault

-- memory or the source failed before any message was read; of the source at most n octets were taken by then
abbrev pub IsUnread : ℕ → Option (List ℕ) → Option (List ℕ) → Bool → RunFault → Type 0
IsUnread n left left' source_broken RunFault.OutOfMemory = TakesAtMost n left left'
IsUnread n left left' source_broken RunFault.ReadFault = IsTrue source_broken × TakesAtMost n left left'
IsUnread n left left' source_broken _ = ⊥

-- a text stands for no octets, or was not read; whatever the failure, at most 4,194,305 octets were taken
abbrev pub FailsText : Option (List ℕ) → Option (List ℕ) → Bool → RunFault → Type 0
FailsText left left' source_broken fault = NoHex left left' fault ⊎ IsUnread 4_194_305 left left' source_broken fault

-- memory, the source or the sink failed
abbrev pub IsResourceFault : RunFault → Type 0
IsResourceFault RunFault.OutOfMemory = Unit {0}
IsResourceFault RunFault.ReadFault = Unit {0}
IsResourceFault (RunFault.WriteFault n) = Unit {0}
IsResourceFault _ = ⊥
