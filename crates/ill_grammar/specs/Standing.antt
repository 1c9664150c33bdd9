-- How frames stand for the elements that are open at a place.
use Rattle.ill_schema.specs.Profiles.{profile_of}
use Rattle.ill_tables.specs.declared.profile.Profile.{Profile as Named}
use Rattle.std.specs.Prelude.{◌≡◌, true, ℕ, List, [], ◌∷◌, ◌++◌, length, take, map, Option, Some, IsTrue}
use Rattle.ber_tree.specs.Tree.{Tree, Trees, none, more, tag_of, AreSegments, octet_string}
use Rattle.ber_tree.specs.Identifier.{Tag}
use Rattle.ber_tree.specs.Octets.{are_octets}
use Rattle.ber_core.specs.Foreign.{are_foreign, is_identified}
use Rattle.ber_leaf.specs.Leaf.{bit_string, is_string}
use Rattle.ber_leaf.specs.Segments.{segment_tag}
use Rattle.ber_leaf.specs.Profile.{profile_two}
use Rattle.ill_schema.specs.Apdu.{root}
use Rattle.ill_schema.specs.Meaning.{Means, Matches, MatchItems}
use Rattle.ill_tables.specs.Table.{rows_of}
use Rattle.ill_schema.specs.Tagging.{untagged, sequence_tag}
use Rattle.ill_schema.specs.Value.{entries_of, items_of}
use Rattle.ill_schema.specs.Content.{Content, foreign}
use Rattle.ill_refusals.specs.Next.{due, next_of, opening}
use Rattle.ill_refusals.specs.Next as following
use Rattle.ill_refusals.specs.Place.{Open, next_in, bound, IsPlace}
use Rattle.ill_grammar.specs.Elements.{element_is}
use Rattle.ill_grammar.specs.Due.{next_is, IsDueIn, behind, shape, shape_at, read_as, read_due, slot_in, next_place}
use Rattle.ill_grammar.specs.LeafTypes.{leaf_is, module_leaf_is}
use Rattle.ill_grammar.specs.declared.due.Next.{Next}
use Rattle.ill_grammar.specs.declared.due.Next.TheVariants.{Rows, Inner, Items, Either, Segments, BitSegments, Root, Foreigns, Nothing}
use Rattle.ill_grammar.specs.declared.element.Element.{Element as CodeElement}
use Rattle.ill_grammar.specs.declared.element.Element.TheVariants.{Leaf, Sequence, List as ListOf, Wrapper, LooseWrapper, Segment, ModuleLeaf, BitString, BitSegment, Foreign}
use Rattle.ill_grammar.specs.declared.element.Wrapped.{Wrapped}
use Rattle.ill_grammar.specs.declared.frame.Frame.{Frame}
use Rattle.ill_grammar.specs.declared.frames.Frames.{Frames}
use Rattle.ill_refusals.specs.Fault.{fault, fault_at}
use Rattle.ill_schema.specs.declared.refusal.Cause.{Cause}

-- what is due where no element is open
abbrev pub top_part : Named → Wrapped
top_part p = record { part = record { node = root (profile_of p); row = 0 }; node = root (profile_of p) }

abbrev pub next_at_top : Named → Next
next_at_top p = Inner (top_part p)

-- what may come next in the last frame
abbrev pub next_at : Named → List Frame → Next
next_at p [] = next_at_top p
next_at p (f ∷ fs) = elim fs as (λ _. Next) [ [] ↦ shape f.place | _ ↦ next_at p fs ]

-- what an open element has in it, in a draft of the message: its tag, what may come next, where its contents begin in the draft, and the entries
pub record Level : Type 0 where
  pub element : CodeElement
  pub tag : Tag
  pub next : Next
  pub contents_start : ℕ
  pub entries : List (Option Content)

-- a wrapper holds its one part
abbrev pub HoldsPart : Named → Wrapped → List (Option Content) → Trees → Type 0
HoldsPart p w entries ts = (c : Content) × (U : Tree) × (entries ≡ Some c ∷ []) × (ts ≡ more U none) × Means (profile_of p) c w.node untagged U

-- foreign trees
abbrev pub foreign_entries : Trees → List (Option Content)
foreign_entries none = []
foreign_entries (more T ts) = Some (foreign T) ∷ foreign_entries ts

-- the entries are what the trees in an element mean so far
abbrev pub IsHeld : Named → CodeElement → Next → List (Option Content) → Trees → Type 0
IsHeld p (Leaf l) Segments entries ts = IsTrue (is_string (leaf_is l)) × (entries ≡ []) × AreSegments octet_string ts
IsHeld p (ModuleLeaf l) Segments entries ts = IsTrue (is_string (module_leaf_is l)) × (entries ≡ []) × AreSegments octet_string ts
IsHeld p Segment Segments entries ts = (entries ≡ []) × AreSegments octet_string ts
IsHeld p BitString BitSegments entries ts = (entries ≡ []) × AreSegments (segment_tag bit_string) ts
IsHeld p BitSegment BitSegments entries ts = (entries ≡ []) × AreSegments (segment_tag bit_string) ts
IsHeld p (Foreign n) (Foreigns same) entries ts = (same ≡ n) × (entries ≡ foreign_entries ts) × IsTrue (are_foreign n ts)
IsHeld p (Wrapper w) (Root same) entries ts = (same ≡ w) × (entries ≡ []) × (ts ≡ none)
IsHeld p (Sequence node) (Rows same n) entries ts = (same ≡ node) × Matches (profile_of p) (entries_of entries) (take n (rows_of node)) ts
IsHeld p (ListOf node) (Items same) entries ts =
    (same ≡ node) × (items : List Content) × (entries ≡ map Some items) × MatchItems (profile_of p) (items_of items) (rows_of node) ts
IsHeld p (Wrapper w) (Inner same) entries ts = (same ≡ w) × (entries ≡ []) × (ts ≡ none)
IsHeld p (Wrapper w) Nothing entries ts = HoldsPart p w entries ts
IsHeld p (LooseWrapper w) (Either same) entries ts = (same ≡ w) × (entries ≡ []) × (ts ≡ none)
IsHeld p (LooseWrapper w) (Rows same n) entries ts = (same ≡ w.node) × Matches (profile_of p) (entries_of entries) (take n (rows_of w.node)) ts
IsHeld p (LooseWrapper w) Nothing entries ts = HoldsPart p w entries ts
IsHeld p _ _ _ _ = ⊥

-- a message is in no element
abbrev pub top_level : Named → Level
top_level p = record { element = Wrapper (top_part p); tag = sequence_tag; next = next_at_top p; contents_start = 0; entries = [] }

abbrev pub whole_level : Named → Content → Level
whole_level p c = record (top_level p) { next = Nothing; entries = Some c ∷ [] }

abbrev pub level_of : Frame → Tag → List (Option Content) → Level
level_of f tag entries = record { element = read_as f.found; tag = tag; next = shape f.place; contents_start = f.contents_start; entries = entries }

-- segments have nothing of their own
abbrev pub pushed : Level → List Level → List Level
pushed l below = elim l.element as (λ _. List Level) [ Segment ↦ below | BitSegment ↦ below | _ ↦ l ∷ below ]

-- each of the trees was due after those before it
abbrev pub AreDue : following.Next → Trees → Type 0
AreDue n none = Unit {0}
AreDue n (more T ts) = (d : following.Due) × (due profile_two (tag_of T) n ≡ Some d) × AreDue (next_of d) ts

-- a frame is an open element in a path, where the frames of the path are these and it has these entries
pub record IsFrameOf (p : Named) (f : Frame) (o : Open) (path : List Open) (outer : List Frame) (entries : List (Option Content)) : Type 0 where
  pub element : element_is (read_as f.found) ≡ o.element
  pub start : f.start ≡ o.start
  pub identified : IsTrue (is_identified o.tag true)
  pub end : f.end ≡ o.end
  pub bound : f.bound ≡ bound profile_two (o ∷ path)
  pub next : next_is (shape f.place) ≡ next_in (profile_of p) (o ∷ path)
  pub is_due : IsDueIn o.tag (next_at p outer) (read_due f.found)
  pub after : shape_at (next_place f.found) ≡ behind (next_at p outer) (slot_in f.found)
  pub held : IsHeld p (read_as f.found) (shape f.place) entries o.trees
  pub were_due : AreDue (opening profile_two o.element) o.trees

-- the frames are the open elements, outermost first, and have this in them, innermost first
abbrev pub AreFrames : Named → List Open → List Frame → List Level → Type 0
AreFrames p [] frames levels = (frames ≡ []) × (levels ≡ top_level p ∷ [])
AreFrames p (o ∷ path) frames levels = (outer : List Frame) × (f : Frame) × (below : List Level) × (entries : List (Option Content))
    × (frames ≡ outer ++ f ∷ []) × (levels ≡ pushed (level_of f o.tag entries) below) × IsFrameOf p f o path outer entries × AreFrames p path outer below

-- the frames are at a place where these elements are open
abbrev pub StandsAt : Frames → List Open → Type 0
StandsAt frames opens = (levels : List Level) × AreFrames frames.profile opens frames.open.items levels

-- what is at a place of the octets, with the rest of them after it
pub record StandsBefore (p : Named) (Stands : List Open → Type 0) (at : ℕ) (s rest : List ℕ) : Type 0 where
  pub place : List Open
  pub before : List ℕ
  pub joined : s ≡ before ++ rest
  pub octets : IsTrue (are_octets s)
  pub offset : at ≡ length before
  pub stands : Stands place
  pub is_place : IsPlace (profile_of p) before place

-- the rest doesn't reach the next place
abbrev pub StandsLast : Named → (List Open → Type 0) → ℕ → List ℕ → List ℕ → Type 0
StandsLast p Stands at s rest = (b : StandsBefore p Stands at s rest) × (fault_at (profile_of p) b.place at rest ≡ Some (fault Cause.Truncated (length s)))

-- how many elements are open
abbrev pub depth_of : Frames → ℕ
depth_of frames = length frames.open.items
