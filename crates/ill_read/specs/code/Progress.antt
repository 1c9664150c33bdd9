-- How the path of open elements grows and shrinks.
use Rattle.std.specs.Prelude.{◌+◌, ◌<◌, ◌≤◌, ℕ}
use Rattle.ill_grammar.specs.declared.judge.ConstructedElement.{ConstructedElement}
use Rattle.ill_grammar.specs.declared.judge.PrimitiveElement.{PrimitiveElement}

-- what is done at a place where nothing is at fault but, perhaps, the text or content of a leaf
pub data Judgement : Type 0 where
  -- the innermost element ends, after this number of octets of an end mark
  Closes : ℕ → Judgement
  Opens : ConstructedElement → Judgement
  Reads : PrimitiveElement → Judgement

-- what was judged takes octets, or closes an element
abbrev pub IsProgress : ℕ → ℕ → Judgement → Type 0
IsProgress depth rest (Closes marks) = (0 < depth) × (marks ≤ rest)
IsProgress depth rest (Opens opening) = (0 < opening.header) × (opening.header ≤ rest)
IsProgress depth rest (Reads reading) = (0 < reading.header) × (reading.header + reading.size ≤ rest)

abbrev pub size_of : Judgement → ℕ
size_of (Closes marks) = marks
size_of (Opens opening) = opening.header
size_of (Reads reading) = reading.header + reading.size
