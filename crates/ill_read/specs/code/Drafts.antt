-- What a draft holds of the elements that have been read, and what each call does to it.
use Rattle.ill_schema.specs.Profiles.{profile_of}
use Rattle.ill_tables.specs.declared.profile.Profile.{Profile as Named}
use Rattle.std.specs.Prelude.{◌≡◌, ℕ, ◌<◌, ◌≤◌, Bool, true, false, length, List, [], ◌∷◌, ◌++◌, take, drop, map, Option, Some, None, Result, Ok, Err, ⊤, IsTrue}
use Rattle.ber_core.specs.Id.{tag_of_id}
use Rattle.ber_tree.specs.Identifier.{Tag}
use Rattle.ber_tree.specs.Octets.{are_octets}
use Rattle.ber_tree.specs.Tree.{Tree, Trees, constructed, primitive, tag_of}
use Rattle.ber_leaf.specs.Leaf.{bit_string, value, content_fault}
use Rattle.ber_leaf.specs.Segments.{join_bits}
use Rattle.ber_leaf.specs.declared.fault.LeafFault.{LeafFault}
use Rattle.ill_schema.specs.Apdu.{Apdu, choice_of, Encodes, normal_form_in}
use Rattle.ill_schema.specs.Causes.{cause_of}
use Rattle.ill_schema.specs.Content.{Content, simple}
use Rattle.ill_schema.specs.Content as content
use Rattle.ill_tables.specs.Table.{rows_of}
use Rattle.ill_schema.specs.Value.{entries_of, items_of}
use Rattle.ill_tables.specs.declared.node.NodeId.{NodeId}
use Rattle.ill_tables.specs.declared.part.Row.{Row}
use Rattle.ill_refusals.specs.Fault.{fault, element_fault, fault_of}
use Rattle.ill_grammar.specs.Places.{alternative_of}
use Rattle.ill_grammar.specs.Due.{IsDueIn, behind, first_of, next_place, shape, shape_at, read_as, slot_in, due_with}
use Rattle.ill_grammar.specs.Elements.{element_is}
use Rattle.ill_grammar.specs.LeafTypes.{leaf_is, module_leaf_is}
use Rattle.ill_grammar.specs.Standing.{Level, foreign_entries, IsHeld, level_of, pushed, whole_level}
use Rattle.ill_grammar.specs.Contents.{IsValueOf, absent_content, with_alternative}
use Rattle.ill_grammar.specs.declared.due.Next.{Next}
use Rattle.ill_grammar.specs.declared.due.Next.TheVariants.{Rows, Either, Nothing}
use Rattle.ill_grammar.specs.declared.due.Slot.{Slot}
use Rattle.ill_grammar.specs.declared.due.Slot.TheVariants.{Row as AtRow}
use Rattle.ill_grammar.specs.declared.element.Element.{Element as CodeElement}
use Rattle.ill_grammar.specs.declared.element.Element.TheVariants.{Leaf, Sequence, List as ListOf, Wrapper, LooseWrapper, Segment, ModuleLeaf, BitString, BitSegment, Foreign}
use Rattle.ill_read.specs.declared.failure.Failure.{Failure}
use Rattle.ill_grammar.specs.declared.frame.Frame.{Frame}
use Rattle.ill_grammar.specs.declared.judge.ConstructedElement.{ConstructedElement}
use Rattle.ill_grammar.specs.declared.judge.PrimitiveElement.{PrimitiveElement}
use Rattle.ill_grammar.specs.declared.leaf_type.LeafType.{LeafType}

-- the rows between a position and the row of an element
abbrev pub rows_before : Next → Slot → List Row
rows_before (Rows node n) (AtRow r) = drop n (take r (rows_of node))
rows_before (Either w) (AtRow r) = drop 0 (take r (rows_of w.node))
rows_before _ _ = []

-- the rows that are still to come
abbrev pub rows_left : Next → List Row
rows_left (Rows node n) = drop n (rows_of node)
rows_left (Either w) = rows_of w.node
rows_left _ = []

-- the content of an element that has ended, by what it had in it
abbrev pub IsContentOf : CodeElement → Next → List (Option Content) → List ℕ → Content → Type 0
IsContentOf (Leaf l) n entries text c = c ≡ simple (value (leaf_is l) text)
IsContentOf (ModuleLeaf l) n entries text c = c ≡ simple (value (module_leaf_is l) text)
IsContentOf BitString n entries text c = c ≡ simple (value bit_string text)
IsContentOf (Sequence node) n entries text c = (text ≡ []) × (c ≡ content.sequence (entries_of (entries ++ map absent_content (rows_left n))))
IsContentOf (ListOf node) n entries text c = (text ≡ []) × (items : List Content) × (entries ≡ map Some items) × (c ≡ content.list (items_of items))
IsContentOf (Wrapper w) n entries text c = (text ≡ []) × (entries ≡ Some c ∷ [])
IsContentOf (LooseWrapper w) Nothing entries text c = (text ≡ []) × (entries ≡ Some c ∷ [])
IsContentOf (LooseWrapper w) n entries text c = (text ≡ []) × (c ≡ content.sequence (entries_of (entries ++ map absent_content (rows_left n))))
IsContentOf (Foreign m) n entries text c = (text ≡ []) × (tag : Tag) × (ts : Trees) × (entries ≡ foreign_entries ts) × (c ≡ content.foreign (constructed tag ts))
IsContentOf _ n entries text c = ⊥

-- the level with an entry more, of an element at the slot
abbrev pub with_entry : Level → Slot → Content → Level
with_entry l slot c = record l { next = behind l.next slot; entries = l.entries ++ (map absent_content (rows_before l.next slot) ++ Some c ∷ []) }

-- the element is due in the level
pub record IsDueAt (p : Named) (l : Level) (expected : Next) (tag : Tag) (slot : Slot) (alternative : Option ℕ) (element : CodeElement) : Type 0 where
  pub trees : Trees
  pub held : IsHeld p l.element l.next l.entries trees
  pub next : l.next ≡ expected
  pub is_due : IsDueIn tag l.next (due_with slot alternative element)

-- a text that is at fault, or no memory
abbrev pub IsTextFault : Named → CodeElement → ℕ → List ℕ → Failure → Type 0
IsTextFault p element start text (Failure.Refused r) = (c : LeafFault) × (element_fault (profile_of p) (element_is element) text ≡ Some c) × (fault (cause_of c) start ≡ fault_of r)
IsTextFault p element start text Failure.OutOfMemory = Unit {0}

-- the text is right, where the element is a leaf
abbrev pub IsRightText : Named → CodeElement → List ℕ → Type 0
IsRightText p (Leaf l) text = IsTrue (are_octets text) × (content_fault (profile_of p) (leaf_is l) text ≡ None)
IsRightText p (ModuleLeaf l) text = IsTrue (are_octets text) × (content_fault (profile_of p) (module_leaf_is l) text ≡ None)
IsRightText p BitString text = IsTrue (are_octets text) × (content_fault (profile_of p) bit_string text ≡ None)
IsRightText p _ text = Unit {0}

-- the text is right, or at fault, or there is no memory
abbrev pub IsChecked : Named → Frame → List ℕ → Result ⊤ Failure → Type 0
IsChecked p f text (Ok _) = IsRightText p (read_as f.found) text
IsChecked p f text (Err failure) = IsTextFault p (read_as f.found) f.start text failure

-- no text is open, and the element is due in the innermost level
pub record IsOpeningIn (levels : List Level) (text : List ℕ) (expected : Next) (o : ConstructedElement) : Type 0 where
  pub none : text ≡ []
  pub level : Level
  pub below : List Level
  pub are : levels ≡ level ∷ below
  pub next : level.next ≡ expected
  pub is_due : IsDueIn (tag_of_id o.id) expected (due_with (slot_in o.found) (alternative_of o.found) (read_as o.found))

-- the element is no segment of a string
abbrev pub IsNoSegment : CodeElement → Type 0
IsNoSegment e = (e ≡ Segment → ⊥) × (e ≡ BitSegment → ⊥)

-- the text of the string that is open once the element has opened: a BIT STRING has no bits, and a segment of it adds none
abbrev pub text_opened : CodeElement → List ℕ → List ℕ
text_opened BitString text = 0 ∷ []
text_opened BitSegment text = join_bits text (0 ∷ [])
text_opened _ text = text

-- a BIT STRING is the innermost element
abbrev pub InBitString : List Level → Type 0
InBitString levels = (l : Level) × (below : List Level) × (levels ≡ l ∷ below) × (l.element ≡ BitString)

-- an element opened
abbrev pub HasOpened : {D : Type 0} → (D → List Level → List ℕ → Type 0) → D → Next → ConstructedElement → ℕ → D → Type 0
HasOpened holds old next o contents_start new = (levels : List Level) (text : List ℕ) → holds old levels text → (IsNoSegment (read_as o.found) → IsOpeningIn levels text next o) → (read_as o.found ≡ BitSegment → InBitString levels)
    → holds new (pushed (record { element = read_as o.found; tag = tag_of_id o.id; next = first_of (read_as o.found); contents_start = contents_start; entries = [] }) levels) (text_opened (read_as o.found) text)

-- the text grew
abbrev pub HasText : {D : Type 0} → (D → List Level → List ℕ → Type 0) → D → List ℕ → D → Type 0
HasText holds old octets new = (l : Level) (below : List Level) (text : List ℕ) → (l.element ≡ BitString → ⊥) → holds old (l ∷ below) text → holds new (l ∷ below) (text ++ octets)

-- a BIT STRING that is open has these bits more
abbrev pub HasBits : {D : Type 0} → (D → List Level → List ℕ → Type 0) → D → List ℕ → D → Type 0
HasBits holds old octets new = (l : Level) (below : List Level) (text : List ℕ) → l.element ≡ BitString → holds old (l ∷ below) text → holds new (l ∷ below) (join_bits text octets)

-- a leaf was added, after which comes what comes at the place after what was found
abbrev pub HasLeaf : {D : Type 0} → Named → (D → List Level → List ℕ → Type 0) → D → Next → PrimitiveElement → LeafType → List ℕ → D → Type 0
HasLeaf p holds old next r leaf octets new = shape_at (next_place r.found) ≡ behind next (slot_in r.found) → (l : Level) (below : List Level) → holds old (l ∷ below) [] → IsDueAt p l next (tag_of_id r.id) (slot_in r.found) (alternative_of r.found) (Leaf leaf)
    → holds new (with_entry l (slot_in r.found) (with_alternative (alternative_of r.found) (simple (value (leaf_is leaf) octets))) ∷ below) []

-- a string of an ILL-String
abbrev pub is_ill_string : LeafType → Bool
is_ill_string LeafType.General = true
is_ill_string LeafType.Visible = true
is_ill_string _ = false

-- an explicit tag round an ILL-String, and a string that may be in it
abbrev pub WrapsString : CodeElement → LeafType → Type 0
WrapsString (Wrapper w) leaf = (w.node ≡ NodeId.IllString) × IsTrue (is_ill_string leaf)
WrapsString _ leaf = ⊥

-- an explicit tag with one primitive string in it was added
abbrev pub HasString : {D : Type 0} → Named → (D → List Level → List ℕ → Type 0) → D → Next → ConstructedElement → LeafType → List ℕ → D → Type 0
HasString p holds old next o leaf octets new = (l : Level) (below : List Level) → holds old (l ∷ below) [] → IsDueAt p l next (tag_of_id o.id) (slot_in o.found) (alternative_of o.found) (read_as o.found)
    → holds new (with_entry l (slot_in o.found) (with_alternative (alternative_of o.found) (simple (value (leaf_is leaf) octets))) ∷ below) []

-- the octets are a content of the element, where it has contents of its own
abbrev pub IsRightContent : Named → CodeElement → List ℕ → Type 0
IsRightContent p e octets = IsTrue (are_octets octets) × (element_fault (profile_of p) (element_is e) octets ≡ None)

-- an element that is no leaf of profile 2
abbrev pub IsNoLeaf : CodeElement → Type 0
IsNoLeaf e = (l : LeafType) → e ≡ Leaf l → ⊥

-- an element that only the module profile has, and no segment
abbrev pub IsModuleElement : CodeElement → Type 0
IsModuleElement (ModuleLeaf l) = Unit {0}
IsModuleElement BitString = Unit {0}
IsModuleElement (Foreign m) = Unit {0}
IsModuleElement _ = ⊥

-- the content of a primitive element that only the module profile has
abbrev pub IsPrimitiveOf : CodeElement → Tag → List ℕ → Content → Type 0
IsPrimitiveOf (ModuleLeaf l) tag octets c = c ≡ simple (value (module_leaf_is l) octets)
IsPrimitiveOf BitString tag octets c = c ≡ simple (value bit_string octets)
IsPrimitiveOf (Foreign m) tag octets c = c ≡ content.foreign (primitive tag octets)
IsPrimitiveOf _ tag octets c = ⊥

-- such an element was added
abbrev pub HasModuleElement : {D : Type 0} → Named → (D → List Level → List ℕ → Type 0) → D → Next → PrimitiveElement → List ℕ → D → Type 0
HasModuleElement p holds old next r octets new = (l : Level) (below : List Level) (c : Content) → holds old (l ∷ below) []
    → IsDueAt p l next (tag_of_id r.id) (slot_in r.found) (alternative_of r.found) (read_as r.found) → IsPrimitiveOf (read_as r.found) (tag_of_id r.id) octets c
    → holds new (with_entry l (slot_in r.found) (with_alternative (alternative_of r.found) c) ∷ below) []

-- the text of the innermost element was checked
abbrev pub ChecksText : {D : Type 0} → Named → (D → List Level → List ℕ → Type 0) → D → Frame → Result ⊤ Failure → Type 0
ChecksText p holds old f result = (tag : Tag) (entries : List (Option Content)) (below : List Level) (text : List ℕ) → holds old (level_of f tag entries ∷ below) text → IsChecked p f text result

-- an element ended, and its content is in the level round it
abbrev pub HasClosed : {D : Type 0} → Named → (D → List Level → List ℕ → Type 0) → D → Frame → Next → D → Type 0
HasClosed p holds old f next new = (tag : Tag) (entries : List (Option Content)) (trees : Trees) (l : Level) (below : List Level) (text : List ℕ) (c : Content)
    → holds old (level_of f tag entries ∷ l ∷ below) text → IsHeld p (read_as f.found) (shape f.place) entries trees → IsRightText p (read_as f.found) text → IsContentOf (read_as f.found) (shape f.place) entries text c
    → ((T : Tree) × (tag_of T ≡ tag) × IsValueOf p (element_is (read_as f.found)) c T)
    → IsDueAt p l next tag (slot_in f.found) (alternative_of f.found) (read_as f.found) → holds new (with_entry l (slot_in f.found) (with_alternative (alternative_of f.found) c) ∷ below) []

-- the draft holds the whole APDU, whose octets these are
abbrev pub HoldsApdu : {D : Type 0} → Named → (D → List Level → List ℕ → Type 0) → D → Apdu → List ℕ → Type 0
HoldsApdu p holds draft a b = holds draft (whole_level p (choice_of a) ∷ []) [] × (1 ≤ a.number) × Encodes (profile_of p) a b

-- it has it, if the normal form is within the limit
abbrev pub HasEnded : {D : Type 0} → (p : Named) → (Named → D → Apdu → ℕ → Type 0) → D → Apdu → ℕ → Bool → Type 0
HasEnded p has draft a n true = has p draft a n × (length (normal_form_in (profile_of p) a) ≤ 1_048_576)
HasEnded p has draft a n false = 1_048_576 < length (normal_form_in (profile_of p) a)
