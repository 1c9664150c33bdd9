-- The outline of a value: what marks say of it, in reading order.
use Rattle.std.specs.Prelude.{◌≡◌, ◌⊎◌, ℕ, List, [], ◌∷◌, ◌++◌, map, Option, Some, None, slice_get, IsTrue}
use Rattle.ber_core.specs.Der.{encoding}
use Rattle.ber_core.specs.Foreign.{foreign_levels, is_foreign}
use Rattle.ber_leaf.specs.Leaf.{Leaf, bit_string, value}
use Rattle.ber_leaf.specs.Simple.{Simple}
use Rattle.ill_tables.specs.declared.part.PartId.{PartId}
use Rattle.ill_tables.specs.declared.part.Row.{Row}
use Rattle.ill_schema.specs.Apdu.{Apdu, choice_of}
use Rattle.ill_schema.specs.Content.{Content, simple, sequence, list, alternative, foreign, Entries, no_entries, absent, present, Items, no_items, item}
use Rattle.ill_tables.specs.Table.{rows_of}
use Rattle.ill_grammar.specs.LeafTypes.{IsContentIn, leaf_is, module_leaf_is}
use Rattle.ill_tables.specs.declared.profile.Profile.{Profile as Named}
use Rattle.ill_grammar.specs.Contents.{absent_content}
use Rattle.ill_grammar.specs.declared.outline.Mark.{Mark}
use Rattle.ill_grammar.specs.declared.outline.Mark.TheVariants as mark
use Rattle.ill_grammar.specs.declared.outline.Outline.{Outline}

-- the row of the part has this entry where it has no element
abbrev pub IsAbsent : PartId → Option Content → Type 0
IsAbsent part entry = (row : Row) × (slice_get (rows_of part.node) part.row ≡ Some row) × (absent_content row ≡ entry)

-- the leaf that a mark begins
abbrev pub leaf_marked : Mark → Option Leaf
leaf_marked (mark.Leaf l) = Some (leaf_is l)
leaf_marked (mark.ModuleLeaf l) = Some (module_leaf_is l)
leaf_marked mark.BitString = Some bit_string
leaf_marked _ = None

-- a mark, octets, and the end
abbrev pub octets_marks : Mark → List ℕ → List Mark
octets_marks m octets = m ∷ (map mark.Octet octets ++ mark.End ∷ [])

-- a leaf that was read
pub record IsLeafRead (v : Simple) (ms : List Mark) : Type 0 where
  pub first : Mark
  pub leaf : Leaf
  pub octets : List ℕ
  pub profile : Named
  pub begins : leaf_marked first ≡ Some leaf
  pub are : ms ≡ octets_marks first octets
  pub content : IsContentIn profile leaf octets
  pub holds : v ≡ value leaf octets

-- a leaf that was read, or the default of a row that is absent
abbrev pub IsLeafMarked : Simple → List Mark → Type 0
IsLeafMarked v ms = IsLeafRead v ms ⊎ ((part : PartId) × (ms ≡ mark.Absent part ∷ []) × IsAbsent part (Some (simple v)))

abbrev mutual
  -- the marks say this value
  pub IsMarked : Content → List Mark → Type 0
  IsMarked (simple v) ms = IsLeafMarked v ms
  IsMarked (sequence es) ms = (inside : List Mark) × (ms ≡ mark.Sequence ∷ (inside ++ mark.End ∷ [])) × AreEntries es inside
  IsMarked (list is) ms = (inside : List Mark) × (ms ≡ mark.List ∷ (inside ++ mark.End ∷ [])) × AreItems is inside
  IsMarked (alternative n c) ms = (inside : List Mark) × (ms ≡ mark.Alternative n ∷ inside) × IsMarked c inside
  IsMarked (foreign T) ms = (ms ≡ octets_marks mark.Foreign (encoding T)) × IsTrue (is_foreign foreign_levels T)

  -- the entries of a sequence, row by row
  pub AreEntries : Entries → List Mark → Type 0
  AreEntries no_entries ms = ms ≡ []
  AreEntries (absent es) ms = (part : PartId) × (rest : List Mark) × (ms ≡ mark.Absent part ∷ rest) × IsAbsent part None × AreEntries es rest
  AreEntries (present c es) ms = (first : List Mark) × (rest : List Mark) × (ms ≡ first ++ rest) × IsMarked c first × AreEntries es rest

  -- the items of a list
  pub AreItems : Items → List Mark → Type 0
  AreItems no_items ms = ms ≡ []
  AreItems (item c is) ms = (first : List Mark) × (rest : List Mark) × (ms ≡ first ++ rest) × IsMarked c first × AreItems is rest

-- the outline is the APDU's
abbrev pub IsOutlineOf : Outline → Apdu → Type 0
IsOutlineOf outline a = IsMarked (choice_of a) outline.marks.items
