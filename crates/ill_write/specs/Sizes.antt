-- What contracts see of the sizes of a normal form.
use Rattle.std.specs.Prelude.{ℕ, List}
use Rattle.ill_write.specs.declared.sizes.Sizes.{Sizes}

-- the content sizes, in the order of the headers
abbrev pub contents_of : Sizes → List ℕ
contents_of s = s.contents.items

-- the size of the whole
abbrev pub total_of : Sizes → ℕ
total_of s = s.total
