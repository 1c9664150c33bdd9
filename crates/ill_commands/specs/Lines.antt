-- The lines of an input, and the answer to each.
use Rattle.std.specs.Prelude.{◌≡◌, ◌++◌, ◌<◌, ℕ, Bool, true, false, List, [], ◌∷◌, length, map, take, Option, IsTrue}
use Rattle.std.specs.List.{list_all, list_any}
use Rattle.std.specs.Io.KnownBytes.{Consumes, Appends, IsAtEnd}
use Rattle.ill_normal.specs.Calls.{Taking, Putting}
use Rattle.ill_inputs.specs.declared.run_fault.RunFault.{RunFault}
use Rattle.ill_inputs.specs.Parts.{has_end, parts_by}
use Rattle.ill_commands.specs.declared.lines.answer.LineVerdict.{LineVerdict}

-- each line is ended by a line feed; the last may be ended by the end of the input
abbrev pub lines : List ℕ → List (List ℕ)
lines s = parts_by 0x0A s

abbrev pub has_line_end : List ℕ → Bool
has_line_end s = has_end 0x0A s

abbrev pub is_good : LineVerdict → Bool
is_good LineVerdict.Good = true
is_good _ = false

-- the work ends with the line
abbrev pub is_last : LineVerdict → Bool
is_last LineVerdict.Last = true
is_last _ = false

-- a line, what is written of it, and what is said of it
pub record Answer : Type 0 where
  pub text : List ℕ
  pub result : List ℕ
  pub verdict : LineVerdict

-- which result and verdict a line may have
abbrev pub Answering : Type 1
Answering = List ℕ → List ℕ → LineVerdict → Type 0

abbrev pub AreAnswers : Answering → List Answer → Type 0
AreAnswers Answers [] = Unit {0}
AreAnswers Answers (a ∷ answers) = Answers a.text a.result a.verdict × AreAnswers Answers answers

-- the results, one after the other
abbrev pub results : List Answer → List ℕ
results [] = []
results (a ∷ answers) = a.result ++ results answers

abbrev pub all_good : List Answer → Bool
all_good answers = list_all (λ a. is_good a.verdict) answers

-- the work ended with the last of the lines that were answered, and with none before; or with none
abbrev pub EndsAt : Bool → List Answer → Type 0
EndsAt false answers = list_any (λ a. is_last a.verdict) answers ≡ false
EndsAt true answers =
    (before : List Answer) × (last : Answer) × (answers ≡ before ++ last ∷ []) × (list_any (λ a. is_last a.verdict) before ≡ false) × (last.verdict ≡ LineVerdict.Last)

-- the input was taken to its end, and the results of its lines were written
pub record LinesDone (Answers : Answering) (left left' held held' : Option (List ℕ)) (good : Bool) : Type 0 where
  pub octets : List ℕ
  pub answers : List Answer
  pub taken : Consumes left left' octets
  pub end : IsAtEnd left'
  pub of : lines octets ≡ map (λ a. a.text) answers
  pub are : AreAnswers Answers answers
  pub goes_on : EndsAt false answers
  pub written : Appends held held' (results answers)
  pub is_verdict : good ≡ all_good answers

-- what was written of the results of the first lines, where the call ended early; `rest` is what was taken after them
abbrev pub Ends : Bool → Putting → List Answer → List ℕ → RunFault → Type 0
Ends source_broken sink answers rest RunFault.OutOfMemory = EndsAt false answers × Appends sink.held sink.held' (results answers)
Ends source_broken sink answers rest RunFault.NotReported = EndsAt true answers × Appends sink.held sink.held' (results answers)
Ends source_broken sink answers rest RunFault.ReadFault =
    EndsAt false answers × IsTrue source_broken × (has_line_end rest ≡ false) × Appends sink.held sink.held' (results answers)
Ends source_broken sink answers rest (RunFault.WriteFault n) =
    ((ended : Bool) × EndsAt ended answers) × IsTrue sink.broken × (n < length (results answers)) × Appends sink.held sink.held' (take n (results answers))
Ends source_broken sink answers rest _ = ⊥

-- these octets were taken, and the call ended early
pub record EndsWithin (Answers : Answering) (octets : List ℕ) (source_broken : Bool) (sink : Putting) (fault : RunFault) : Type 0 where
  pub answers : List Answer
  pub rest : List ℕ
  pub of : lines octets ≡ map (λ a. a.text) answers ++ lines rest
  pub are : AreAnswers Answers answers
  pub ends : Ends source_broken sink answers rest fault

abbrev pub LinesFail : Answering → Taking → Putting → RunFault → Type 0
LinesFail Answers source sink fault = (octets : List ℕ) × Consumes source.left source.left' octets × EndsWithin Answers octets source.broken sink fault
