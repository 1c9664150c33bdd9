-- Text and tags, in HTML and without.
use Rattle.std.specs.Prelude.{◌==◌, ◌||◌, not, ℕ, Bool, if◌then◌else◌, List, [], ◌∷◌, codes}
use Rattle.std.specs.List.{flat_map}
use Rattle.ill_walk.specs.declared.markup.DumpFormat.{DumpFormat}
use Rattle.ill_walk.specs.declared.markup.DumpFormat.TheVariants.{Text, Html}

-- what stands for an octet of a text in HTML: references for `&`, `<`, `>`, `"` and `'`
abbrev pub escape : ℕ → List ℕ
escape octet =
    if octet == 38 then codes "&amp;" else if octet == 60 then codes "&lt;" else if octet == 62 then codes "&gt;"
    else if octet == 34 then codes "&quot;" else if octet == 39 then codes "&#39;" else octet ∷ []

-- an octet that begins and ends no tag, and no value of an attribute: neither `<`, `>`, `"` nor `'`
abbrev pub is_no_markup : ℕ → Bool
is_no_markup octet = not ((octet == 60) || ((octet == 62) || ((octet == 34) || (octet == 39))))

-- a text in a format
abbrev pub shown_in : DumpFormat → List ℕ → List ℕ
shown_in Text octets = octets
shown_in Html octets = flat_map escape octets

-- tags in a format
abbrev pub tags_in : DumpFormat → List ℕ → List ℕ
tags_in Text tags = []
tags_in Html tags = tags
