-- What the draft of an outline holds of the elements that have been read.
use Rattle.ill_tables.specs.declared.profile.Profile.{Profile as Named}
use Rattle.std.specs.Prelude.{◌≡◌, ℕ, Bool, true, false, List, [], ◌∷◌, ◌++◌, drop, map, Option, Some, None, slice_get}
use Rattle.ber_tree.specs.Identifier.{Tag}
use Rattle.ill_tables.specs.declared.part.PartId.{PartId}
use Rattle.ill_tables.specs.declared.part.Row.{Row}
use Rattle.ill_schema.specs.Apdu.{Apdu, choice_of}
use Rattle.ill_tables.specs.Table.{kind_of, rows_of}
use Rattle.ill_schema.specs.Value.{entries_of}
use Rattle.ill_grammar.specs.Outline.{AreEntries, IsMarked, octets_marks}
use Rattle.ill_grammar.specs.Standing.{Level}
use Rattle.ill_grammar.specs.Cells.{is_any}
use Rattle.ill_grammar.specs.Due.{IsDueIn}
use Rattle.ill_read.specs.code.Drafts.{rows_before, rows_left}
use Rattle.ill_grammar.specs.Due.{due_with}
use Rattle.ill_read.specs.code.OctetDrafts.{AreOctets, innermost, AreNormal}
use Rattle.ill_read.specs.declared.normal_form_draft.NormalFormDraft.{NormalFormDraft}
use Rattle.ill_schema.specs.Content.{Content}
use Rattle.ill_grammar.specs.declared.due.Next.{Next}
use Rattle.ill_grammar.specs.declared.due.Next.TheVariants.{Rows, Inner, Items, Either, Segments, BitSegments, Foreigns, Nothing, Root}
use Rattle.ill_grammar.specs.declared.due.Slot.{Slot}
use Rattle.ill_grammar.specs.declared.due.Slot.TheVariants.{Row as AtRow}
use Rattle.ill_grammar.specs.declared.element.Element.{Element as CodeElement}
use Rattle.ill_grammar.specs.declared.element.Element.TheVariants.{BitString, Foreign, Leaf, ModuleLeaf, Wrapper}
use Rattle.ill_grammar.specs.declared.outline.Mark.{Mark}
use Rattle.ill_grammar.specs.declared.outline.Mark.TheVariants as mark
use Rattle.ill_read.specs.declared.outline_draft.OutlineDraft.{OutlineDraft}

-- the marks of rows that have no element
abbrev pub AreAbsent : List Row → List Mark → Type 0
AreAbsent [] ms = ms ≡ []
AreAbsent (row ∷ rows) ms = (part : PartId) × (rest : List Mark) × (ms ≡ mark.Absent part ∷ rest) × (slice_get (rows_of part.node) part.row ≡ Some row) × AreAbsent rows rest

-- rows without an element were passed, after these marks
pub record HasAbsent (before : List Mark) (rows : List Row) (old new : List Mark) : Type 0 where
  pub marks : List Mark
  pub added : new ≡ old ++ (before ++ marks)
  pub are : AreAbsent rows marks

abbrev pub alternative_marks : Option ℕ → List Mark
alternative_marks None = []
alternative_marks (Some n) = mark.Alternative n ∷ []

-- the mark that an element begins with, where this may come next in it; a loose wrapper has one at its first row
abbrev pub first_marks : Next → CodeElement → List Mark
first_marks (Rows node n) e = mark.Sequence ∷ []
first_marks (Items node) e = mark.List ∷ []
first_marks Segments (Leaf l) = mark.Leaf l ∷ []
first_marks Segments (ModuleLeaf l) = mark.ModuleLeaf l ∷ []
first_marks BitSegments BitString = mark.BitString ∷ []
first_marks _ e = []

-- the mark of a loose wrapper as a sequence, where the first row comes
abbrev pub start_marks : Next → Slot → List Mark
start_marks (Either w) (AtRow r) = mark.Sequence ∷ []
start_marks _ _ = []

-- the same, where there is no row
abbrev pub late_marks : Next → List Mark
late_marks (Either w) = mark.Sequence ∷ []
late_marks _ = []

-- the mark that an element ends with
abbrev pub last_marks : Next → List Mark
last_marks (Inner w) = []
last_marks (Root w) = []
last_marks (Foreigns n) = []
last_marks Nothing = []
last_marks _ = mark.End ∷ []

-- the marks of an element are complete
pub record HasEnding (n : Next) (old new : List Mark) : Type 0 where
  pub rows : List Mark
  pub added : new ≡ old ++ (late_marks n ++ (rows ++ last_marks n))
  pub are : AreAbsent (rows_left n) rows

-- what comes before an element was marked: the rows that it passes, and the alternative that it is
pub record HasPreceding (next : Next) (slot : Slot) (alternative : Option ℕ) (old new : List Mark) : Type 0 where
  pub rows : List Mark
  pub added : new ≡ old ++ (start_marks next slot ++ (rows ++ alternative_marks alternative))
  pub are : AreAbsent (rows_before next slot) rows

-- an element at the slot passes no row, and no sequence begins with it
abbrev pub PassesNone : Next → Slot → Type 0
PassesNone next slot = (start_marks next slot ≡ []) × (rows_before next slot ≡ [])

-- the same of an open element, which is due in the element round it
pub record IsPreceded (tag : Tag) (element : CodeElement) (next : Next) (old new : List Mark) : Type 0 where
  pub slot : Slot
  pub alternative : Option ℕ
  pub is_due : IsDueIn tag next (due_with slot alternative element)
  pub led : HasPreceding next slot alternative old new

-- the outermost level has nothing before it
abbrev pub ArePreceded : Tag → CodeElement → List Level → List Mark → List Mark → Type 0
ArePreceded tag element [] old new = new ≡ old
ArePreceded tag element (l ∷ below) old new = IsPreceded tag element l.next old new

-- a wrapper of an open type, or an element of a foreign tree
abbrev pub is_open_type : CodeElement → Bool
is_open_type (Wrapper w) = is_any (kind_of w.node)
is_open_type (Foreign n) = true
is_open_type _ = false

-- the marks of the entries in an element; a foreign tree has none before its wrapper ends
abbrev pub AreOwnAs : Bool → List (Option Content) → List Mark → Type 0
AreOwnAs true entries own = own ≡ []
AreOwnAs false entries own = AreEntries (entries_of entries) own

abbrev pub AreOwn : CodeElement → List (Option Content) → List Mark → Type 0
AreOwn e entries own = AreOwnAs (is_open_type e) entries own

-- the octets of a string that is open have marks, those of a BIT STRING when it ends
abbrev pub text_marks : CodeElement → List ℕ → List Mark
text_marks BitString text = []
text_marks _ text = map mark.Octet text

-- the marks of what only the draft of octets has until an element ends: bits, and a foreign tree in its wrapper
abbrev pub foreign_marks : Bool → List ℕ → List Mark
foreign_marks true octets = octets_marks mark.Foreign octets
foreign_marks false octets = []

abbrev pub held_marks : CodeElement → NormalFormDraft → ℕ → List Mark
held_marks BitString octets contents_start = map mark.Octet octets.bits
held_marks (Wrapper w) octets contents_start = foreign_marks (is_any (kind_of w.node)) (drop contents_start octets.octets)
held_marks _ octets contents_start = []

-- the marks are those of the levels, outermost first
abbrev pub AreFronts : List Level → List Mark → Type 0
AreFronts [] ms = ms ≡ []
AreFronts (l ∷ below) ms = (before : List Mark) × (led : List Mark) × (own : List Mark)
    × (ms ≡ led ++ (first_marks l.next l.element ++ own)) × ArePreceded l.tag l.element below before led × AreOwn l.element l.entries own × AreFronts below before

pub record AreOutlined (draft : OutlineDraft) (levels : List Level) (text : List ℕ) : Type 0 where
  pub octets : AreOctets draft.octets levels text
  pub front : List Mark
  pub joined : draft.marks.items ≡ front ++ text_marks (innermost levels) text
  pub are : AreFronts levels front

-- the marks are the APDU's
abbrev pub HasOutline : OutlineDraft → Apdu → Type 0
HasOutline draft a = IsMarked (choice_of a) draft.marks.items

-- and its octets are its normal form
abbrev pub HasMarksAndForm : Named → OutlineDraft → Apdu → ℕ → Type 0
HasMarksAndForm p draft a n = HasOutline draft a × AreNormal p draft.octets a n
