-- How far the lines are between two octets.
use Rattle.std.specs.Prelude.{◌≡◌, ◌++◌, ◌&&◌, ℕ, Bool, true, false, List, [], map, take, Option}
use Rattle.std.specs.Io.KnownBytes.{Appends}
use Rattle.ill_inputs.specs.declared.run_fault.RunFault.{RunFault}
use Rattle.ill_commands.specs.Lines.{Answer, Answering, AreAnswers, EndsAt, all_good, has_line_end, is_good, lines, results}
use Rattle.ill_commands.specs.declared.lines.answer.LineVerdict.{LineVerdict}
use Rattle.ill_commands.specs.declared.lines.reader.LineReader.{LineReader}

-- the lines that ended in the octets were answered; of what follows them no more is kept than `most` octets
pub record IsAfter (Answers : Answering) (most : ℕ) (ended : Bool) (octets kept made : List ℕ) (good : Bool) : Type 0 where
  pub answers : List Answer
  pub rest : List ℕ
  pub of : (more : List ℕ) → lines (octets ++ more) ≡ map (λ a. a.text) answers ++ lines (rest ++ more)
  pub unended : has_line_end rest ≡ false
  pub is_kept : kept ≡ take most rest
  pub are : AreAnswers Answers answers
  pub ends : EndsAt ended answers
  pub is_made : made ≡ results answers
  pub is_good : good ≡ all_good answers

-- the same, where `put` was written of the results
abbrev pub StandsAfter : Answering → ℕ → Bool → List ℕ → List ℕ → LineReader → Type 0
StandsAfter Answers most ended octets put now = IsAfter Answers most ended octets now.part.items (put ++ now.ready.items) now.is_good

-- one more line was answered, of which this was kept
pub record IsAnswered (Answers : Answering) (most : ℕ) (kept : List ℕ) (verdict : LineVerdict) (old new : LineReader) : Type 0 where
  pub result : List ℕ
  pub is_result : (line : List ℕ) → kept ≡ take most line → Answers line result verdict
  pub ready : new.ready.items ≡ old.ready.items ++ result
  pub good : new.is_good ≡ (old.is_good && is_good verdict)
  pub part : new.part.items ≡ []

-- nothing changed
abbrev pub IsSame : LineReader → LineReader → Type 0
IsSame old new = (new.part.items ≡ old.part.items) × (new.ready.items ≡ old.ready.items) × (new.is_good ≡ old.is_good)

-- memory ran out, or the work ended with a line
abbrev pub IsStop : RunFault → Bool → Type 0
IsStop RunFault.OutOfMemory ended = ended ≡ false
IsStop RunFault.NotReported ended = ended ≡ true
IsStop _ ended = ⊥

-- what was read of the octets when the work stopped
abbrev pub StopsAfter : Answering → ℕ → List ℕ → List ℕ → List ℕ → LineReader → RunFault → Type 0
StopsAfter Answers most octets more put now fault =
    (ended : Bool) × (n : ℕ) × IsStop fault ended × StandsAfter Answers most ended (octets ++ take n more) put now

-- the same of what the sink holds, which held `first` at the beginning
abbrev pub HasWritten : Answering → ℕ → Bool → List ℕ → Option (List ℕ) → Option (List ℕ) → LineReader → Type 0
HasWritten Answers most ended octets first held now = (put : List ℕ) × Appends first held put × StandsAfter Answers most ended octets put now × (now.ready.items ≡ [])
