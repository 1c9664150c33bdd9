-- What code reads of the elements in a foreign tree.
use Rattle.std.specs.Prelude.{ℕ, suc, List, [], ◌∷◌, codes, if◌then◌else◌}
use Rattle.ill_grammar.specs.declared.outline.Mark.{Mark}
use Rattle.ill_grammar.specs.Marks.{ends_number}

-- how many marks there are up to the first octet that ends a number
abbrev pub up_to_last : List Mark → ℕ
up_to_last [] = 0
up_to_last (m ∷ ms) = if ends_number m then 1 else suc (up_to_last ms)

-- a blank, where any marks follow
abbrev pub blank : List Mark → List ℕ
blank [] = []
blank (m ∷ ms) = codes " "
