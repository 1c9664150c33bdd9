-- A text of parts, each ended by one octet.
use Rattle.std.specs.Prelude.{◌==◌, ℕ, Bool, List, [], ◌∷◌, if◌then◌else◌}
use Rattle.std.specs.List.{list_any}

-- an octet at the front of the first part
abbrev pub put_first : ℕ → List (List ℕ) → List (List ℕ)
put_first c [] = (c ∷ []) ∷ []
put_first c (part ∷ parts) = (c ∷ part) ∷ parts

-- each part is ended by the octet e; the last may be ended by the end of the text
abbrev pub parts_by : ℕ → List ℕ → List (List ℕ)
parts_by e [] = []
parts_by e (c ∷ text) = if c == e then [] ∷ parts_by e text else put_first c (parts_by e text)

abbrev pub has_end : ℕ → List ℕ → Bool
has_end e text = list_any (λ c. c == e) text
