-- The marks of an outline, as calls that write one read them.
use Rattle.std.specs.Prelude.{◌≡◌, ℕ, suc, Bool, true, false, nat_lt, List, [], ◌∷◌, Option, Some, None}
use Rattle.ill_schema.specs.Content.{Content}
use Rattle.ill_tables.specs.declared.part.PartId.{PartId}
use Rattle.ill_grammar.specs.Outline.{IsMarked, IsAbsent}
use Rattle.ill_grammar.specs.declared.outline.Mark.{Mark}
use Rattle.ill_grammar.specs.declared.outline.Mark.TheVariants as mark

-- the octets of a leaf
abbrev pub octets_in : List Mark → List ℕ
octets_in [] = []
octets_in (mark.Octet octet ∷ ms) = octet ∷ octets_in ms
octets_in (_ ∷ ms) = octets_in ms

abbrev pub is_octet : Mark → Bool
is_octet (mark.Octet octet) = true
is_octet _ = false

-- how many marks of octets come first
abbrev pub leading_octets : List Mark → ℕ
leading_octets [] = 0
leading_octets (mark.Octet octet ∷ ms) = suc (leading_octets ms)
leading_octets (_ ∷ ms) = 0

-- the marks of a row's entry
abbrev pub IsEntry : Option Content → List Mark → Type 0
IsEntry None ms = (part : PartId) × (ms ≡ mark.Absent part ∷ []) × IsAbsent part None
IsEntry (Some c) ms = IsMarked c ms

abbrev pub is_there : Option Content → Bool
is_there None = false
is_there (Some c) = true

-- no mark is left, or the end comes first
abbrev pub is_at_end : List Mark → Bool
is_at_end [] = true
is_at_end (mark.End ∷ ms) = true
is_at_end (_ ∷ ms) = false

-- the row that is absent, where its mark comes first
abbrev pub absent_in : List Mark → Option PartId
absent_in (mark.Absent part ∷ ms) = Some part
absent_in _ = None

-- the alternative, where its mark comes first
abbrev pub alternative_in : List Mark → Option ℕ
alternative_in (mark.Alternative n ∷ ms) = Some n
alternative_in _ = None

-- a number of an OBJECT IDENTIFIER, or of a tag, ends with the octet (X.690, 8.1.2.4.2 and 8.19.2)
abbrev pub ends_number : Mark → Bool
ends_number (mark.Octet a) = nat_lt a 0x80
ends_number _ = false
