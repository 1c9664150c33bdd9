-- What a draft of octets holds of the elements that have been read.
use Rattle.ill_schema.specs.Profiles.{profile_of}
use Rattle.ill_tables.specs.declared.profile.Profile.{Profile as Named}
use Rattle.std.specs.Prelude.{◌≡◌, ℕ, Bool, true, false, List, [], ◌∷◌, ◌++◌, length, Option, Some, None}
use Rattle.ber_core.specs.Der.{encoding, encodings}
use Rattle.ber_core.specs.Id.{tag_of_id}
use Rattle.ber_tree.specs.Identifier.{identifier}
use Rattle.ber_tree.specs.declared.class.Class.TheVariants.{Universal}
use Rattle.ber_tree.specs.Length.{shortest_length}
use Rattle.ill_schema.specs.Apdu.{Apdu, normal_form_in}
use Rattle.ill_schema.specs.Content.{Content}
use Rattle.ill_schema.specs.Content as content
use Rattle.ill_schema.specs.Normal.{normal_tree, normal_trees, normal_items}
use Rattle.ill_tables.specs.Table.{rows_of}
use Rattle.ill_schema.specs.Tagging.{untagged, sequence_tag}
use Rattle.ill_schema.specs.Value.{entries_of, items_of}
use Rattle.ill_grammar.specs.Due.{read_as}
use Rattle.ill_grammar.specs.Standing.{Level}
use Rattle.ill_grammar.specs.Written.{left_away}
use Rattle.ill_grammar.specs.declared.due.Next.{Next}
use Rattle.ill_grammar.specs.declared.due.Next.TheVariants.{Rows, Nothing}
use Rattle.ill_grammar.specs.declared.due.Slot.{Slot}
use Rattle.ill_grammar.specs.declared.element.Element.{Element as CodeElement}
use Rattle.ill_grammar.specs.declared.element.Element.TheVariants.{Leaf, Sequence, List as ListOf, Wrapper, LooseWrapper, Segment, ModuleLeaf, BitString, BitSegment, Foreign}
use Rattle.ill_grammar.specs.declared.element.Wrapped.{Wrapped}
use Rattle.ill_grammar.specs.declared.judge.ConstructedElement.{ConstructedElement}
use Rattle.ill_read.specs.declared.normal_form_draft.NormalFormDraft.{NormalFormDraft}

-- the items that are there
abbrev pub items_in : List (Option Content) → List Content
items_in [] = []
items_in (None ∷ es) = items_in es
items_in (Some c ∷ es) = c ∷ items_in es

-- the part of a wrapper
abbrev pub part_octets : Wrapped → List (Option Content) → List ℕ
part_octets w [] = []
part_octets w (None ∷ es) = []
part_octets w (Some c ∷ es) = encoding (normal_tree c w.node untagged)

-- the octets of foreign trees, as they stand
abbrev pub tree_octets : Content → List ℕ
tree_octets (content.foreign T) = encoding T
tree_octets _ = []

abbrev pub foreign_octets : List (Option Content) → List ℕ
foreign_octets [] = []
foreign_octets (None ∷ es) = foreign_octets es
foreign_octets (Some c ∷ es) = tree_octets c ++ foreign_octets es

-- the octets of the entries in an element
abbrev pub written : CodeElement → Next → List (Option Content) → List ℕ
written (Sequence node) n es = encodings (normal_trees (entries_of es) (rows_of node))
written (ListOf node) n es = encodings (normal_items (items_of (items_in es)) (rows_of node))
written (Wrapper w) n es = part_octets w es
written (LooseWrapper w) (Rows own k) es = encodings (normal_trees (entries_of es) (rows_of w.node))
written (LooseWrapper w) n es = part_octets w es
written (Foreign m) n es = foreign_octets es
written _ n es = []

abbrev pub unless_left : Next → Slot → Content → List ℕ → List ℕ
unless_left n slot c octets = elim (left_away n slot c) as (λ _. List ℕ) [ true ↦ [] | false ↦ octets ]

-- a string is primitive in DER (10.2)
abbrev pub form_of : CodeElement → Bool
form_of (Leaf l) = false
form_of (ModuleLeaf l) = false
form_of BitString = false
form_of _ = true

-- the tag isn't that of an end mark, where the element is primitive
abbrev pub IsApart : Level → Type 0
IsApart l = l.tag.class ≡ Universal → l.tag.number ≡ 0 → form_of l.element ≡ true

abbrev pub IsApartAs : ConstructedElement → Type 0
IsApartAs o = (tag_of_id o.id).class ≡ Universal → (tag_of_id o.id).number ≡ 0 → form_of (read_as o.found) ≡ true

-- the octets are those of the levels, outermost first: each has its identifier, an octet for its length, and its entries; the message is in no element
abbrev pub AreWritten : List Level → List ℕ → Type 0
AreWritten [] octets = ⊥
AreWritten (l ∷ []) octets = (octets ≡ written l.element l.next l.entries) × (l.contents_start ≡ 0)
AreWritten (l ∷ (k ∷ below)) octets = (before : List ℕ) × (header : List ℕ) × (octets ≡ before ++ (header ++ written l.element l.next l.entries))
    × (l.contents_start ≡ length (before ++ header)) × (IsApart l → header ≡ identifier l.tag (form_of l.element) ++ 0 ∷ []) × AreWritten (k ∷ below) before

-- the contents of an element that has ended: a loose wrapper without its SEQUENCE gets one
abbrev pub enclosed : CodeElement → Next → List ℕ → List ℕ
enclosed (LooseWrapper w) Nothing octets = octets
enclosed (LooseWrapper w) n octets = identifier sequence_tag true ++ (shortest_length (length octets) ++ octets)
enclosed _ n octets = octets

-- the text of the string that is open stands behind the octets; that of a BIT STRING stands apart
abbrev pub IsBehind : NormalFormDraft → CodeElement → List ℕ → List ℕ → Type 0
IsBehind draft BitString front text = (draft.octets ≡ front) × (draft.bits ≡ text)
IsBehind draft _ front text = draft.octets ≡ front ++ text

-- a string that only the module profile has, or a segment of one
abbrev pub IsModuleString : CodeElement → Type 0
IsModuleString (ModuleLeaf l) = Unit {0}
IsModuleString BitString = Unit {0}
IsModuleString BitSegment = Unit {0}
IsModuleString _ = ⊥

-- the element of the innermost level
abbrev pub innermost : List Level → CodeElement
innermost [] = Segment
innermost (l ∷ below) = l.element

pub record AreOctets (draft : NormalFormDraft) (levels : List Level) (text : List ℕ) : Type 0 where
  pub front : List ℕ
  pub joined : IsBehind draft (innermost levels) front text
  pub are : AreWritten levels front

-- the octets are the APDU's normal form
abbrev pub AreNormal : Named → NormalFormDraft → Apdu → ℕ → Type 0
AreNormal p draft a n = draft.octets ≡ normal_form_in (profile_of p) a
