-- What a comparison of two inputs does.
use Rattle.std.specs.Prelude.{◌≡◌, ◌⊎◌, ◌↔◌, ℕ, ◌<◌, ◌≤◌, Bool, true, false, List, length, take, codes, Option, Result, Ok, Err, IsTrue}
use Rattle.std.specs.Io.KnownBytes.{Consumes, Keeps, Appends, IsAtEnd}
use Rattle.ber_leaf.specs.Profile.{Profile}
use Rattle.ill_schema.specs.Apdu.{Apdu, SpellsApdu}
use Rattle.ill_refusals.specs.Fault.{Fault, fault_of}
use Rattle.ill_normal.specs.Calls.{Taking, Putting}
use Rattle.ill_normal.specs.Compared.{RefusesSideIn}
use Rattle.ill_inputs.specs.declared.side.Side.{Side}
use Rattle.ill_inputs.specs.declared.verdict.Verdict.{Verdict}
use Rattle.ill_inputs.specs.declared.run_fault.RunFault.{RunFault}
use Rattle.ill_inputs.specs.Hexadecimal.{hex_octets}
use Rattle.ill_inputs.specs.Inputs.{TextOf, FailsText, IsUnread, IsResourceFault}
use Rattle.ill_commands.specs.Runs.{AnswersFault}

abbrev pub verdict_line : Verdict → List ℕ
verdict_line Verdict.Good = codes "same\n"
verdict_line Verdict.NotGood = codes "different\n"

-- what is read of an input: of octets, at most one more than a message may have
abbrev pub ReadsSide : Bool → Option (List ℕ) → Option (List ℕ) → List ℕ → Type 0
ReadsSide true left left' octets = TextOf left left' octets
ReadsSide false left left' octets = Consumes left left' octets × (length octets ≤ 1_048_577) × (length octets < 1_048_577 → IsAtEnd left')

-- a side was not read; whatever the failure, at most as many octets were taken as of a side that is read
abbrev pub SideFails : Bool → Option (List ℕ) → Option (List ℕ) → Bool → RunFault → Type 0
SideFails true left left' source_broken fault = FailsText left left' source_broken fault
SideFails false left left' source_broken fault = IsUnread 1_048_577 left left' source_broken fault

-- each is one message, and they are good exactly if they are of one APDU
abbrev pub AreCompared : Profile → List ℕ → List ℕ → Verdict → Type 0
AreCompared q s t verdict = (a : Apdu) × (b : Apdu) × SpellsApdu q a s × SpellsApdu q b t × ((verdict ≡ Verdict.Good) ↔ (a ≡ b))

-- the first side that isn't one message, or out of memory
abbrev pub NotCompared : Profile → List ℕ → List ℕ → RunFault → Type 0
NotCompared q s t (RunFault.RefusedSide side refusal) = RefusesSideIn q s t side (fault_of refusal)
NotCompared q s t RunFault.OutOfMemory = Unit {0}
NotCompared q s t _ = ⊥

-- of the line, only a first part was written
abbrev pub BreaksLine : Verdict → Option (List ℕ) → Option (List ℕ) → Bool → RunFault → Type 0
BreaksLine verdict held held' sink_broken (RunFault.WriteFault n) =
    IsTrue sink_broken × Appends held held' (take n (verdict_line verdict)) × (n < length (verdict_line verdict))
BreaksLine verdict held held' sink_broken _ = ⊥

pub record SameDone (q : Profile) (hex : Bool) (left left' other other' held held' : Option (List ℕ)) (verdict : Verdict) : Type 0 where
  pub first : List ℕ
  pub second : List ℕ
  pub reads_first : ReadsSide hex left left' first
  pub reads_second : ReadsSide hex other other' second
  pub compares : AreCompared q first second verdict
  pub written : Appends held held' (verdict_line verdict)

-- both inputs were read, and they were not compared, or the line was not written
pub record SameStops (q : Profile) (hex : Bool) (one other : Taking) (sink : Putting) (fault : RunFault) : Type 0 where
  pub first : List ℕ
  pub second : List ℕ
  pub reads_first : ReadsSide hex one.left one.left' first
  pub reads_second : ReadsSide hex other.left other.left' second
  pub stops : (NotCompared q first second fault × Keeps sink.held sink.held')
      ⊎ ((verdict : Verdict) × AreCompared q first second verdict × BreaksLine verdict sink.held sink.held' sink.broken fault)

-- the first input was not read, and nothing was asked of the second; or the second was not read; or both were
abbrev pub SameFails : Profile → Bool → Taking → Taking → Putting → RunFault → Type 0
SameFails q hex one other sink fault =
    (SideFails hex one.left one.left' one.broken fault × Keeps other.left other.left' × Keeps sink.held sink.held')
    ⊎ (((first : List ℕ) × ReadsSide hex one.left one.left' first × SideFails hex other.left other.left' other.broken fault × Keeps sink.held sink.held')
    ⊎ SameStops q hex one other sink fault)

-- the octets of an input that are compared
abbrev pub side_octets : Bool → List ℕ → Result (List ℕ) RunFault
side_octets true s = hex_octets s
side_octets false s = Ok (take 1_048_577 s)

abbrev pub SaysSame : Result Verdict RunFault → Type 0 → Type 0
SaysSame (Ok verdict) same = (verdict ≡ Verdict.Good) ↔ same
SaysSame (Err fault) same = IsResourceFault fault

-- two spellings are compared
abbrev pub ComparesBoth : Profile → Bool → List ℕ → List ℕ → Result Verdict RunFault → Type 0
ComparesBoth q hex s t result = (x y : List ℕ) (a b : Apdu) → side_octets hex s ≡ Ok x → side_octets hex t ≡ Ok y → SpellsApdu q a x → SpellsApdu q b y
    → SaysSame result (a ≡ b)

abbrev pub IsRefusedSide : RunFault → Side → Fault → Type 0
IsRefusedSide (RunFault.RefusedSide which refusal) side f = (which ≡ side) × (fault_of refusal ≡ f)
IsRefusedSide fault side f = IsResourceFault fault

abbrev pub AnswersSide : Result Verdict RunFault → Side → Fault → Type 0
AnswersSide (Ok verdict) side f = ⊥
AnswersSide (Err fault) side f = IsRefusedSide fault side f

-- the first side that is refused is named
abbrev pub RefusesOne : Profile → Bool → List ℕ → List ℕ → Result Verdict RunFault → Type 0
RefusesOne q hex s t result = (x y : List ℕ) (side : Side) (f : Fault) → side_octets hex s ≡ Ok x → side_octets hex t ≡ Ok y → RefusesSideIn q x y side f → AnswersSide result side f

-- the first text that stands for no octets is refused, before either is compared
abbrev pub RefusesTexts : Bool → List ℕ → List ℕ → Result Verdict RunFault → Type 0
RefusesTexts hex s t result = ((fault : RunFault) → side_octets hex s ≡ Err fault → AnswersFault result fault)
    × ((x : List ℕ) (fault : RunFault) → side_octets hex s ≡ Ok x → side_octets hex t ≡ Err fault → AnswersFault result fault)
