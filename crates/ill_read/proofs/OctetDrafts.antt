-- The octets that a draft holds, as elements open, are read and end.
use Rattle.ill_tables.specs.declared.profile.Profile.{Profile as Named}
use Rattle.ill_schema.specs.Profiles.{profile_of}
use Rattle.std.proofs.Common.{◌≡◌, ℕ, Bool, true, false, List, [], ◌∷◌, ◌++◌, length, drop, append_assoc, append-nil, Option, None, IsTrue, inl, inr, refl, sym, ap, ap₂, subst, ◌∙◌}
use Rattle.std.proofs.lemmas.List.{drop_at}
use Rattle.ber_core.specs.Der.{encoding}
use Rattle.ber_core.specs.Id.{tag_of_id}
use Rattle.ber_tree.specs.Identifier.{Tag, identifier}
use Rattle.ber_tree.specs.declared.class.Class.TheVariants.{Universal}
use Rattle.ber_tree.specs.Length.{shortest_length}
use Rattle.ber_tree.specs.Octets.{are_octets}
use Rattle.ber_tree.specs.Tree.{Tree, Trees, primitive, tag_of}
use Rattle.ber_leaf.specs.Leaf.{Leaf, bit_string, boolean, enumerated, integer, is_bits, is_string, normal_content, value, content_fault}
use Rattle.ber_leaf.specs.Bits.{cleared_content}
use Rattle.ber_leaf.specs.Segments.{join_bits, segment_tag}
use Rattle.ber_leaf.specs.declared.fault.LeafFault.{LeafFault}
use Rattle.ber_leaf.proofs.Bits.{normal_bits}
use Rattle.ber_leaf.proofs.Leaves.{tested}
use Rattle.ber_tree.specs.Identifier.{HasIdentifier}
use Rattle.ber_core.proofs.Foreign.{has_identified}
use Rattle.ill_refusals.specs.Element.{leaf, foreign}
use Rattle.ill_grammar.specs.declared.due.Next.TheVariants.{BitSegments}
use Rattle.ill_grammar.specs.declared.leaf_type.ModuleLeaf.{ModuleLeaf as ModuleLeafType}
use Rattle.ill_grammar.specs.declared.leaf_type.ModuleLeaf.TheVariants as named
use Rattle.ill_read.proofs.PrimitiveElements.{module_whole, primitive_means}
use Rattle.ill_read.proofs.Segments.{segments_alone}
use Rattle.ill_schema.specs.Content.{Content, simple}
use Rattle.ill_grammar.specs.Places.{alternative_of}
use Rattle.ill_grammar.specs.Due.{IsDueIn, shape, first_of, read_as, slot_in}
use Rattle.ill_grammar.specs.Elements.{element_is}
use Rattle.ill_grammar.specs.LeafTypes.{leaf_is, module_leaf_is}
use Rattle.ill_grammar.specs.Standing.{Level, level_of, pushed, IsHeld}
use Rattle.ill_grammar.specs.Contents.{with_alternative, IsValueOf}
use Rattle.ill_read.specs.code.Drafts.{HasBits, HasOpened, HasText, IsContentOf, IsDueAt, IsModuleElement, IsNoSegment, IsPrimitiveOf, IsRightContent, IsRightText, text_opened, with_entry}
use Rattle.ill_grammar.specs.Due.{due_with}
use Rattle.ill_read.specs.code.OctetDrafts.{AreOctets, AreWritten, IsApartAs, IsBehind, IsModuleString, enclosed, form_of, unless_left, written}
use Rattle.ill_grammar.specs.Written.{normal_element}
use Rattle.ill_grammar.specs.code.Judging.{is_usual}
use Rattle.ill_grammar.specs.declared.due.Next.{Next}
use Rattle.ill_grammar.specs.declared.due.Next.TheVariants.{Segments}
use Rattle.ill_grammar.specs.declared.due.Slot.{Slot}
use Rattle.ill_grammar.specs.declared.element.Element.{Element as CodeElement}
use Rattle.ill_grammar.specs.declared.element.Element.TheVariants.{Leaf as LeafElement, Sequence, List as ListOf, Wrapper, LooseWrapper, Segment, ModuleLeaf, BitString, BitSegment, Foreign}
use Rattle.ill_grammar.specs.declared.frame.Frame.{Frame}
use Rattle.ill_grammar.specs.declared.judge.ConstructedElement.{ConstructedElement}
use Rattle.ill_grammar.specs.declared.judge.PrimitiveElement.{PrimitiveElement}
use Rattle.ill_grammar.specs.declared.leaf_type.LeafType.{LeafType}
use Rattle.ill_read.specs.declared.normal_form_draft.NormalFormDraft.{NormalFormDraft}
use Rattle.ill_read.proofs.DeliveredEntries.{pushed_apart, pushed_segment}
use Rattle.ill_grammar.proofs.DueTags.{IsNoNumber, due_apart, due_bit_segment, kept}
use Rattle.ill_grammar.proofs.NormalLeaves.{no_bits, normal_as_read}
use Rattle.ill_read.proofs.WrittenElements.{entry_written, ended_written}
use Rattle.ill_schema.specs.Normal.{normal_tree}
use Rattle.ill_schema.specs.Tagging.{leaf_tag, untagged}
use Rattle.ill_tables.specs.declared.node.NodeId.{NodeId}
use Rattle.ill_grammar.specs.LeafTypes.{IsContentIn}
use Rattle.ill_grammar.specs.declared.element.Wrapped.{Wrapped}
use Rattle.ill_read.specs.code.Drafts.{HasString, WrapsString, is_ill_string}
use Rattle.ill_read.specs.code.StringsInTags.{string_tree}
use Rattle.ill_read.proofs.StringsInTags.{string_value, wrapped_of}

-- an element that opens has written nothing in it
pub written_first : (e : CodeElement) → written e (first_of e) [] ≡ []
written_first (LeafElement l) = refl
written_first _ = refl

-- where no text is open, the octets are all there is
front_of : (d : NormalFormDraft) (e : CodeElement) (front text : List ℕ) → text ≡ [] → IsBehind d e front text → d.octets ≡ front
front_of d BitString front text none h = h.0
front_of d _ front text none h = h ∙ ap (λ t. front ++ t) none ∙ append-nil front

stands_behind : (d : NormalFormDraft) (e : CodeElement) (front text : List ℕ) → d.octets ≡ front → text ≡ [] → IsNoSegment e → (e ≡ BitString → d.bits ≡ 0 ∷ []) → IsBehind d e front (text_opened e text)
stands_behind d BitString front text o none whole bits = (o, bits refl)
stands_behind d Segment front text o none whole bits = absurd (whole.0 refl)
stands_behind d BitSegment front text o none whole bits = absurd (whole.1 refl)
stands_behind d _ front text o none whole bits = o ∙ sym (append-nil front) ∙ ap (λ t. front ++ t) (sym none)

pub octets_opened : (old new : NormalFormDraft) (next : Next) (o : ConstructedElement) (contents_start : ℕ) (id : List ℕ) → IsNoSegment (read_as o.found) → (IsApartAs o → id ≡ identifier (tag_of_id o.id) (form_of (read_as o.found)))
    → (read_as o.found ≡ BitString → new.bits ≡ 0 ∷ []) → new.octets ≡ old.octets ++ (id ++ 0 ∷ []) → contents_start ≡ length new.octets → HasOpened AreOctets old next o contents_start new
octets_opened old new next o contents_start id whole is bits e b levels text h opening inside = subst (λ ls. AreOctets new ls (text_opened (read_as o.found) text)) (sym (pushed_apart l levels whole)) (go levels h)
  where
    l : Level
    l = record { element = (read_as o.found); tag = tag_of_id o.id; next = first_of (read_as o.found); contents_start = contents_start; entries = [] }

    none : text ≡ []
    none = (opening whole).none

    go : (ls : List Level) → AreOctets old ls text → AreOctets new (l ∷ ls) (text_opened (read_as o.found) text)
    go [] h = absurd h.are
    go (k ∷ below) h =
        let front : old.octets ≡ h.front = front_of old k.element h.front text none h.joined in
        let header = id ++ 0 ∷ [] in
        let all : new.octets ≡ h.front ++ (header ++ written l.element l.next l.entries) =
        e ∙ ap₂ (λ x y. x ++ y) front (sym (append-nil header) ∙ ap (λ x. header ++ x) (sym (written_first (read_as o.found)))) in
        record {
          front = new.octets;
          joined = stands_behind new (read_as o.found) new.octets text refl none whole bits;
          are = (h.front, header, all, b ∙ ap length (e ∙ ap (λ x. x ++ header) front), λ a. ap (λ x. x ++ 0 ∷ []) (is a), h.are);
        }

-- a segment opens
pub segment_opened : (old new : NormalFormDraft) (next : Next) (o : ConstructedElement) (contents_start : ℕ) → read_as o.found ≡ Segment → new ≡ old → HasOpened AreOctets old next o contents_start new
segment_opened old new next o contents_start is same levels text h opening inside =
    subst (λ d. AreOctets d (pushed l levels) (text_opened (read_as o.found) text)) (sym same)
    (subst (λ ls. AreOctets old ls (text_opened (read_as o.found) text)) (sym (pushed_segment l levels (inl is))) (subst (λ e. AreOctets old levels (text_opened e text)) (sym is) h))
  where
    l : Level
    l = record { element = (read_as o.found); tag = tag_of_id o.id; next = first_of (read_as o.found); contents_start = contents_start; entries = [] }

none_behind : (d : NormalFormDraft) (e : CodeElement) (front : List ℕ) → (e ≡ BitString → ⊥) → d.octets ≡ front → IsBehind d e front []
none_behind d BitString front other h = absurd (other refl)
none_behind d _ front other h = h ∙ sym (append-nil front)

behind_front : (d : NormalFormDraft) (e : CodeElement) (front text : List ℕ) → (e ≡ BitString → ⊥) → IsBehind d e front text → d.octets ≡ front ++ text
behind_front d BitString front text other h = absurd (other refl)
behind_front d _ front text other h = h

bits_behind : (d : NormalFormDraft) (e : CodeElement) (front text : List ℕ) → e ≡ BitString → IsBehind d e front text → (d.octets ≡ front) × (d.bits ≡ text)
bits_behind d e front text is h = subst (λ x. IsBehind d x front text) is h

-- the text of a string grows
pub text_more : (old new : NormalFormDraft) (octets : List ℕ) → new.octets ≡ old.octets ++ octets → HasText AreOctets old octets new
text_more old new octets e l below text other h =
    record { front = h.front; joined = front_behind new l.element h.front (text ++ octets) other (e ∙ ap (λ x. x ++ octets) (behind_front old l.element h.front text other h.joined) ∙ append_assoc h.front text octets); are = h.are }
  where
    front_behind : (d : NormalFormDraft) (e : CodeElement) (front text : List ℕ) → (e ≡ BitString → ⊥) → d.octets ≡ front ++ text → IsBehind d e front text
    front_behind d BitString front text other h = absurd (other refl)
    front_behind d _ front text other h = h

-- the bits of a BIT STRING grow
bits_joined : (old new : NormalFormDraft) (l : Level) (below : List Level) (text octets : List ℕ) → l.element ≡ BitString → new.octets ≡ old.octets → new.bits ≡ join_bits old.bits octets → AreOctets old (l ∷ below) text
    → AreOctets new (l ∷ below) (join_bits text octets)
bits_joined old new l below text octets is same e h =
    let was = bits_behind old l.element h.front text is h.joined in
    record { front = h.front; joined = subst (λ x. IsBehind new x h.front (join_bits text octets)) (sym is) (same ∙ was.0, e ∙ ap (λ x. join_bits x octets) was.1); are = h.are }

pub bits_more : (old new : NormalFormDraft) (octets : List ℕ) → new.octets ≡ old.octets → new.bits ≡ join_bits old.bits octets → HasBits AreOctets old octets new
bits_more old new octets same e l below text is h = bits_joined old new l below text octets is same e h

-- a segment of a BIT STRING opens, and has no bits yet
pub bit_segment_opened : (old new : NormalFormDraft) (next : Next) (o : ConstructedElement) (contents_start : ℕ) → read_as o.found ≡ BitSegment → new.octets ≡ old.octets → new.bits ≡ join_bits old.bits (0 ∷ []) → HasOpened AreOctets old next o contents_start new
bit_segment_opened old new next o contents_start is same e levels text h opening inside =
    let x = inside is in
    let joined = bits_joined old new x.0 x.1 text (0 ∷ []) x.3 same e (subst (λ ls. AreOctets old ls text) x.2 h) in
    subst (λ ls. AreOctets new ls (text_opened (read_as o.found) text)) (sym (pushed_segment l levels (inr is)))
    (subst (λ e. AreOctets new levels (text_opened e text)) (sym is) (subst (λ ls. AreOctets new ls (join_bits text (0 ∷ []))) (sym x.2) joined))
  where
    l : Level
    l = record { element = (read_as o.found); tag = tag_of_id o.id; next = first_of (read_as o.found); contents_start = contents_start; entries = [] }

-- a string that only the module profile has is primitive in DER
pub module_string_form : (e : CodeElement) → IsModuleString e → (e ≡ BitSegment → ⊥) → form_of e ≡ false
module_string_form (ModuleLeaf l) h apart = refl
module_string_form BitString h apart = refl
module_string_form BitSegment h apart = absurd (apart refl)
module_string_form _ h apart = absurd h

pub module_string_whole : (e : CodeElement) → IsModuleString e → (e ≡ BitSegment → ⊥) → IsNoSegment e
module_string_whole (ModuleLeaf l) h apart = (λ s. cc, λ s. cc)
module_string_whole BitString h apart = (λ s. cc, λ s. cc)
module_string_whole BitSegment h apart = absurd (apart refl)
module_string_whole _ h apart = absurd h

-- an entry more in the innermost element
more_written : (l : Level) (below : List Level) (slot : Slot) (c : Content) (octets added : List ℕ) → written l.element (with_entry l slot c).next (with_entry l slot c).entries ≡ written l.element l.next l.entries ++ added
    → AreWritten (l ∷ below) octets → AreWritten (with_entry l slot c ∷ below) (octets ++ added)
more_written l [] slot c octets added e h = (ap (λ x. x ++ added) h.0 ∙ sym e, h.1)
more_written l (k ∷ below) slot c octets added e h = (
  h.0,
  h.1,
  ap (λ x. x ++ added) h.2 ∙ append_assoc h.0 (h.1 ++ written l.element l.next l.entries) added
      ∙ ap (λ x. h.0 ++ x) (append_assoc h.1 (written l.element l.next l.entries) added ∙ ap (λ x. h.1 ++ x) (sym e)),
  h.3,
  h.4,
  h.5,
)

added_octets : (new : NormalFormDraft) (l : Level) (below : List Level) (slot : Slot) (c : Content) (front added : List ℕ) → (l.element ≡ BitString → ⊥)
    → written l.element (with_entry l slot c).next (with_entry l slot c).entries ≡ written l.element l.next l.entries ++ added → AreWritten (l ∷ below) front → new.octets ≡ front ++ added
    → AreOctets new (with_entry l slot c ∷ below) []
added_octets new l below slot c front added other w h e =
    record { front = front ++ added; joined = none_behind new l.element (front ++ added) other e; are = more_written l below slot c front added w h }

-- what is due in a BIT STRING is a segment
bits_next : (p : Named) (n : Next) (entries : List (Option Content)) (ts : Trees) → IsHeld p BitString n entries ts → n ≡ BitSegments
bits_next p BitSegments entries ts h = refl
bits_next p _ entries ts h = absurd h

no_bit_string : (p : Named) (l : Level) (next : Next) (tag : Tag) (slot : Slot) (alt : Option ℕ) (e : CodeElement) → IsDueAt p l next tag slot alt e → IsNoSegment e → l.element ≡ BitString → ⊥
no_bit_string p l next tag slot alt e due whole is =
    let here : l.next ≡ BitSegments = bits_next p l.next l.entries due.trees (subst (λ x. IsHeld p x l.next l.entries due.trees) is due.held) in
    segments_alone e (segment_tag bit_string) whole (due_bit_segment tag l.next (due_with slot alt e) due.is_due here)

-- a leaf is added, unless it is its row's default
pub leaf_added : (p : Named) (old new : NormalFormDraft) (l : Level) (below : List Level) (next : Next) (r : PrimitiveElement) (leaf : LeafType) (octets : List ℕ) → AreOctets old (l ∷ below) []
    → IsDueAt p l next (tag_of_id r.id) (slot_in r.found) (alternative_of r.found) (LeafElement leaf) → IsTrue (are_octets octets) → content_fault (profile_of p) (leaf_is leaf) octets ≡ None
    → new.octets ≡ old.octets ++ unless_left next (slot_in r.found) (with_alternative (alternative_of r.found) (simple (value (leaf_is leaf) octets))) (encoding (primitive (tag_of_id r.id) (normal_content (value (leaf_is leaf) octets))))
    → AreOctets new (with_entry l (slot_in r.found) (with_alternative (alternative_of r.found) (simple (value (leaf_is leaf) octets))) ∷ below) []
leaf_added p old new l below next r kind octets h due ok right e =
    let tag = tag_of_id r.id in
    let c = simple (value (leaf_is kind) octets) in
    let entry = entry_written p l.element l.next l.entries due.trees (primitive tag octets) (slot_in r.found) (alternative_of r.found) (LeafElement kind) c due.held due.is_due (tt, ok, right, refl) in
    let front : old.octets ≡ h.front = front_of old l.element h.front [] refl h.joined in
    let there = ap (λ n. unless_left n (slot_in r.found) (with_alternative (alternative_of r.found) c) (encoding (primitive tag (normal_content (value (leaf_is kind) octets))))) (sym due.next) in
    added_octets new l below (slot_in r.found) (with_alternative (alternative_of r.found) c) h.front _
    (no_bit_string p l next tag (slot_in r.found) (alternative_of r.found) (LeafElement kind) due (λ s. cc, λ s. cc)) entry h.are (e ∙ ap₂ (λ x y. x ++ y) front there)

-- an element that only the module profile has
number_apart : (l : ModuleLeafType) → IsNoNumber (leaf (module_leaf_is l))
number_apart named.Null = tt
number_apart named.ObjectIdentifier = tt
number_apart named.OctetString = tt
number_apart named.ObjectDescriptor = tt

leaf_apart : (l : ModuleLeafType) → (module_leaf_is l ≡ boolean → ⊥) × (module_leaf_is l ≡ bit_string → ⊥)
leaf_apart named.Null = (λ e. cc, λ e. cc)
leaf_apart named.ObjectIdentifier = (λ e. cc, λ e. cc)
leaf_apart named.OctetString = (λ e. cc, λ e. cc)
leaf_apart named.ObjectDescriptor = (λ e. cc, λ e. cc)

other_number : (e : CodeElement) → IsModuleElement e → IsNoNumber (element_is e)
other_number (ModuleLeaf l) h = number_apart l
other_number BitString h = tt
other_number (Foreign m) h = tt
other_number _ h = absurd h

-- the octets of a content in DER: unused bits are 0
abbrev pub other_octets : CodeElement → List ℕ → List ℕ
other_octets BitString octets = cleared_content octets
other_octets _ octets = octets

pub other_same : (e : CodeElement) (octets : List ℕ) → (e ≡ BitString → ⊥) → other_octets e octets ≡ octets
other_same BitString octets other = absurd (other refl)
other_same _ octets other = refl

-- the one segment of a string is all of it
pub one_segment : (p : Named) (octets : List ℕ) → content_fault (profile_of p) bit_string octets ≡ None → join_bits (0 ∷ []) octets ≡ octets
one_segment p [] right = absurd cc
one_segment p (v ∷ rest) right = rw (tested (is_bits (v ∷ rest)) LeafFault.BadBits right) refl

normal_bit_string : (p : Named) (octets : List ℕ) → content_fault (profile_of p) bit_string octets ≡ None → normal_content (value bit_string octets) ≡ cleared_content octets
normal_bit_string p octets right = normal_bits octets (tested (is_bits octets) LeafFault.BadBits right)

other_normal : (p : Named) (e : CodeElement) (tag : Tag) (octets : List ℕ) (c : Content) → IsRightContent p e octets → IsPrimitiveOf e tag octets c → encoding (normal_element (element_is e) tag c) ≡ encoding (primitive tag (other_octets e octets))
other_normal p (ModuleLeaf l) tag octets c right is =
    ap (λ x. encoding (normal_element (leaf (module_leaf_is l)) tag x)) is ∙ ap (λ x. encoding (primitive tag x)) (normal_as_read (profile_of p) (module_leaf_is l) octets (leaf_apart l).0 (leaf_apart l).1 right.0 right.1)
other_normal p BitString tag octets c right is = ap (λ x. encoding (normal_element (leaf bit_string) tag x)) is ∙ ap (λ x. encoding (primitive tag x)) (normal_bit_string p octets right.1)
other_normal p (Foreign m) tag octets c right is = ap (λ x. encoding (normal_element (foreign m) tag x)) is
other_normal p _ tag octets c right is = absurd is

pub other_added : (p : Named) (old new : NormalFormDraft) (l : Level) (below : List Level) (next : Next) (r : PrimitiveElement) (octets : List ℕ) (c : Content) → IsModuleElement (read_as r.found) → IsRightContent p (read_as r.found) octets
    → AreOctets old (l ∷ below) [] → IsDueAt p l next (tag_of_id r.id) (slot_in r.found) (alternative_of r.found) (read_as r.found) → IsPrimitiveOf (read_as r.found) (tag_of_id r.id) octets c
    → new.octets ≡ old.octets ++ encoding (primitive (tag_of_id r.id) (other_octets (read_as r.found) octets))
    → AreOctets new (with_entry l (slot_in r.found) (with_alternative (alternative_of r.found) c) ∷ below) []
other_added p old new l below next r octets c other right h due is e =
    let tag = tag_of_id r.id in
    let el = read_as r.found in
    let value = primitive_means p el tag octets c (has_identified tag false (subst (HasIdentifier tag) r.form r.id.valid)) right is in
    let entry = entry_written p l.element l.next l.entries due.trees (primitive tag octets) (slot_in r.found) (alternative_of r.found) el c due.held due.is_due value in
    let stays = kept tag l.next (slot_in r.found) (alternative_of r.found) el c due.is_due (other_number el other) in
    let octets_are = other_normal p el tag octets c right is in
    let added : unless_left l.next (slot_in r.found) (with_alternative (alternative_of r.found) c) (encoding (normal_element (element_is el) tag c)) ≡ encoding (primitive tag (other_octets el octets)) =
    ap (λ b. elim b as (λ _. List ℕ) [ true ↦ [] | false ↦ encoding (normal_element (element_is el) tag c) ]) stays ∙ octets_are in
    let front : old.octets ≡ h.front = front_of old l.element h.front [] refl h.joined in
    added_octets new l below (slot_in r.found) (with_alternative (alternative_of r.found) c) h.front (encoding (primitive tag (other_octets el octets)))
    (no_bit_string p l next tag (slot_in r.found) (alternative_of r.found) el due (module_whole el other)) (entry ∙ ap (λ x. written l.element l.next l.entries ++ x) added) h.are (e ∙ ap (λ x. x ++ encoding (primitive tag (other_octets el octets))) front)

-- a string of an ILL-String is the tree of its type
string_octets : (w : Wrapped) (l : LeafType) (octets : List ℕ) → w.node ≡ NodeId.IllString → IsTrue (is_ill_string l) → encoding (normal_tree (simple (value (leaf_is l) octets)) w.node untagged) ≡ encoding (primitive (leaf_tag (leaf_is l)) octets)
string_octets w l octets node string = ap (λ n. encoding (normal_tree (simple (value (leaf_is l) octets)) n untagged)) node ∙ go l string
  where
    go : (l : LeafType) → IsTrue (is_ill_string l) → encoding (normal_tree (simple (value (leaf_is l) octets)) NodeId.IllString untagged) ≡ encoding (primitive (leaf_tag (leaf_is l)) octets)
    go LeafType.General h = refl
    go LeafType.Visible h = refl
    go _ h = absurd cc

-- an explicit tag is added, and the string in it
pub string_added : (p : Named) (old new : NormalFormDraft) (next : Next) (o : ConstructedElement) (leaf : LeafType) (octets : List ℕ) → WrapsString (read_as o.found) leaf → IsContentIn p (leaf_is leaf) octets
    → (let body = encoding (primitive (leaf_tag (leaf_is leaf)) octets) in new.octets ≡ old.octets ++ (identifier (tag_of_id o.id) true ++ (shortest_length (length body) ++ body))) → HasString p AreOctets old next o leaf octets new
string_added p old new next o kind octets string right e l below h due =
    let tag = tag_of_id o.id in
    let el = read_as o.found in
    let x = wrapped_of el kind string in
    let c = simple (value (leaf_is kind) octets) in
    let T = string_tree tag kind octets in
    let body = encoding (primitive (leaf_tag (leaf_is kind)) octets) in
    let all = identifier tag true ++ (shortest_length (length body) ++ body) in
    let whole = subst IsNoSegment (sym x.1) (λ s. cc, λ s. cc) in
    let given = subst (λ e. IsValueOf p (element_is e) c T) (sym x.1) (string_value p x.0 kind tag octets x.2 x.3 right) in
    let entry = entry_written p l.element l.next l.entries due.trees T (slot_in o.found) (alternative_of o.found) el c due.held due.is_due given in
    let stays = kept tag l.next (slot_in o.found) (alternative_of o.found) el c due.is_due (subst (λ e. IsNoNumber (element_is e)) (sym x.1) tt) in
    let contents : encoding (normal_tree c x.0.node untagged) ++ [] ≡ body = append-nil _ ∙ string_octets x.0 kind octets x.2 x.3 in
    let octets_are : encoding (normal_element (element_is el) tag c) ≡ all =
    ap (λ e. encoding (normal_element (element_is e) tag c)) x.1 ∙ ap (λ y. identifier tag true ++ (shortest_length (length y) ++ y)) contents in
    let added : unless_left l.next (slot_in o.found) (with_alternative (alternative_of o.found) c) (encoding (normal_element (element_is el) tag c)) ≡ all =
    ap (λ b. elim b as (λ _. List ℕ) [ true ↦ [] | false ↦ encoding (normal_element (element_is el) tag c) ]) stays ∙ octets_are in
    let front : old.octets ≡ h.front = front_of old l.element h.front [] refl h.joined in
    added_octets new l below (slot_in o.found) (with_alternative (alternative_of o.found) c) h.front all
    (no_bit_string p l next tag (slot_in o.found) (alternative_of o.found) el due whole) (entry ∙ ap (λ y. written l.element l.next l.entries ++ y) added) h.are (e ∙ ap (λ y. y ++ all) front)

-- the text of the innermost string
pub text_at : (draft : NormalFormDraft) (l : Level) (below : List Level) (text : List ℕ) → AreOctets draft (l ∷ below) text → (l.element ≡ BitString → ⊥) → written l.element l.next l.entries ≡ [] → drop l.contents_start draft.octets ≡ text
text_at draft l [] text h other none =
    let front : h.front ≡ [] = h.are.0 ∙ none in
    ap₂ drop h.are.1 (behind_front draft l.element h.front text other h.joined ∙ ap (λ x. x ++ text) front)
text_at draft l (k ∷ below) text h other none =
    let a = h.are in
    let front : h.front ≡ a.0 ++ a.1 = a.2 ∙ ap (λ x. a.0 ++ (a.1 ++ x)) none ∙ ap (λ x. a.0 ++ x) (append-nil a.1) in
    ap (drop l.contents_start) (behind_front draft l.element h.front text other h.joined) ∙ drop_at h.front text l.contents_start (ap length front ∙ sym a.3)

-- the bits of the innermost string
pub bits_at : (draft : NormalFormDraft) (l : Level) (below : List Level) (text : List ℕ) → AreOctets draft (l ∷ below) text → l.element ≡ BitString → draft.bits ≡ text
bits_at draft l below text h is = (bits_behind draft l.element h.front text is h.joined).1

-- the contents that an element has at its end
abbrev pub contents_of : CodeElement → Next → List ℕ → List ℕ → List ℕ
contents_of (LeafElement l) n octets text = text
contents_of (ModuleLeaf l) n octets text = text
contents_of BitString n octets text = cleared_content text
contents_of e n octets text = enclosed e n octets

-- its octets are those of its normal form
ended_octets : (p : Named) (e : CodeElement) (n : Next) (entries : List (Option Content)) (ts : Trees) (text : List ℕ) (c : Content) (tag : Tag) → IsHeld p e n entries ts → IsRightText p e text → IsContentOf e n entries text c
    → ((T : Tree) × (tag_of T ≡ tag) × IsValueOf p (element_is e) c T) → let contents = contents_of e n (written e n entries) text in
    encoding (normal_element (element_is e) tag c) ≡ identifier tag (form_of e) ++ (shortest_length (length contents) ++ contents)
ended_octets p (LeafElement l) n entries ts text c tag h right k v =
    ap (λ x. encoding (normal_element (element_is (LeafElement l)) tag x)) k
    ∙ ap (λ x. encoding (primitive tag x)) (normal_as_read (profile_of p) (leaf_is l) text (no_boolean n h) (no_bits l) right.0 right.1)
  where
    no_boolean : (n : Next) → IsHeld p (LeafElement l) n entries ts → leaf_is l ≡ boolean → ⊥
    no_boolean Segments h e = let q : is_string boolean ≡ true = subst (λ x. is_string x ≡ true) e h.0 in cc
    no_boolean _ h e = h
ended_octets p (ModuleLeaf l) n entries ts text c tag h right k v =
    ap (λ x. encoding (normal_element (element_is (ModuleLeaf l)) tag x)) k
    ∙ ap (λ x. encoding (primitive tag x)) (normal_as_read (profile_of p) (module_leaf_is l) text (leaf_apart l).0 (leaf_apart l).1 right.0 right.1)
ended_octets p BitString n entries ts text c tag h right k v =
    ap (λ x. encoding (normal_element (element_is BitString) tag x)) k ∙ ap (λ x. encoding (primitive tag x)) (normal_bit_string p text right.1)
ended_octets p BitSegment n entries ts text c tag h right k v = absurd k
ended_octets p (Foreign m) n entries ts text c tag h right k v = ended_written p (Foreign m) n entries ts text c tag h k refl v
ended_octets p Segment n entries ts text c tag h right k v = absurd k
ended_octets p (Sequence node) n entries ts text c tag h right k v = ended_written p (Sequence node) n entries ts text c tag h k refl v
ended_octets p (ListOf node) n entries ts text c tag h right k v = ended_written p (ListOf node) n entries ts text c tag h k refl v
ended_octets p (Wrapper w) n entries ts text c tag h right k v = ended_written p (Wrapper w) n entries ts text c tag h k refl v
ended_octets p (LooseWrapper w) n entries ts text c tag h right k v = ended_written p (LooseWrapper w) n entries ts text c tag h k refl v

string_number : (l : Leaf) → IsTrue (is_string l) → IsNoNumber (leaf l)
string_number boolean h = absurd cc
string_number integer h = absurd cc
string_number enumerated h = absurd cc
string_number _ h = tt

pub open_number : (p : Named) (e : CodeElement) (n : Next) (entries : List (Option Content)) (ts : Trees) → IsHeld p e n entries ts → IsNoNumber (element_is e)
open_number p (LeafElement l) Segments entries ts h = string_number (leaf_is l) h.0
open_number p (LeafElement l) _ entries ts h = absurd h
open_number p (ModuleLeaf l) n entries ts h = number_apart l
open_number p BitString n entries ts h = tt
open_number p _ n entries ts h = tt

-- a foreign element alone may have any tag
foreign_form : (e : CodeElement) (n : ℕ) → element_is e ≡ foreign n → form_of e ≡ true
foreign_form (LeafElement l) n e = absurd cc
foreign_form (ModuleLeaf l) n e = absurd cc
foreign_form BitString n e = absurd cc
foreign_form _ n e = refl

-- what has a content is no segment
content_whole : (e : CodeElement) (n : Next) (entries : List (Option Content)) (text : List ℕ) (c : Content) → IsContentOf e n entries text c → IsNoSegment e
content_whole Segment n entries text c h = absurd h
content_whole BitSegment n entries text c h = absurd h
content_whole (LeafElement l) n entries text c h = (λ s. cc, λ s. cc)
content_whole (ModuleLeaf l) n entries text c h = (λ s. cc, λ s. cc)
content_whole BitString n entries text c h = (λ s. cc, λ s. cc)
content_whole (Sequence node) n entries text c h = (λ s. cc, λ s. cc)
content_whole (ListOf node) n entries text c h = (λ s. cc, λ s. cc)
content_whole (Wrapper w) n entries text c h = (λ s. cc, λ s. cc)
content_whole (LooseWrapper w) n entries text c h = (λ s. cc, λ s. cc)
content_whole (Foreign m) n entries text c h = (λ s. cc, λ s. cc)

-- an element ends: its contents are made, and then its length is set
pub octets_closed : (p : Named) (old new : NormalFormDraft) (middle : List ℕ) (f : Frame) (next : Next) (tag : Tag) (entries : List (Option Content)) (trees : Trees) (l : Level) (below : List Level) (text : List ℕ) (c : Content)
    → AreOctets old (level_of f tag entries ∷ l ∷ below) text → IsHeld p (read_as f.found) (shape f.place) entries trees → IsRightText p (read_as f.found) text → IsContentOf (read_as f.found) (shape f.place) entries text c
    → ((T : Tree) × (tag_of T ≡ tag) × IsValueOf p (element_is (read_as f.found)) c T) → IsDueAt p l next tag (slot_in f.found) (alternative_of f.found) (read_as f.found)
    → ((before : List ℕ) → IsBehind old (read_as f.found) (before ++ written (read_as f.found) (shape f.place) entries) text → f.contents_start ≡ length before → middle ≡ before ++ contents_of (read_as f.found) (shape f.place) (written (read_as f.found) (shape f.place) entries) text)
    → ((before body : List ℕ) (t : Tag) (form : Bool) (x : ℕ) → middle ≡ before ++ (identifier t form ++ x ∷ body) → f.contents_start ≡ length (before ++ (identifier t form ++ x ∷ []))
    → new.octets ≡ before ++ (identifier t form ++ (shortest_length (length body) ++ body)))
    → AreOctets new (with_entry l (slot_in f.found) (with_alternative (alternative_of f.found) c) ∷ below) []
octets_closed p old new middle f next tag entries trees l below text c h held right is value due made closed =
    let a = h.are in
    let w = written (read_as f.found) (shape f.place) entries in
    let contents = contents_of (read_as f.found) (shape f.place) w text in
    let id = identifier tag (form_of (read_as f.found)) in
    let whole = content_whole (read_as f.found) (shape f.place) entries text c is in
    let foreign_at : tag.class ≡ Universal → tag.number ≡ 0 → (n : ℕ) × (element_is (read_as f.found) ≡ foreign n) = λ class number. due_apart tag l.next (due_with (slot_in f.found) (alternative_of f.found) (read_as f.found)) due.is_due (λ u. segments_alone (read_as f.found) u whole) class number in
    let header : a.1 ≡ id ++ 0 ∷ [] = a.4 (λ class number. foreign_form (read_as f.found) (foreign_at class number).0 (foreign_at class number).1) in
    let all : IsBehind old (read_as f.found) ((a.0 ++ a.1) ++ w) text = subst (λ x. IsBehind old (read_as f.found) x text) (a.2 ∙ sym (append_assoc a.0 a.1 w)) h.joined in
    let middle_is : middle ≡ a.0 ++ (id ++ 0 ∷ contents) =
    made (a.0 ++ a.1) all a.3 ∙ append_assoc a.0 a.1 contents ∙ ap (λ x. a.0 ++ x) (ap (λ x. x ++ contents) header ∙ append_assoc id (0 ∷ []) contents) in
    let contents_start : f.contents_start ≡ length (a.0 ++ (id ++ 0 ∷ [])) = a.3 ∙ ap (λ x. length (a.0 ++ x)) header in
    let done = closed a.0 contents tag (form_of (read_as f.found)) 0 middle_is contents_start ∙ ap (λ x. a.0 ++ x) (sym (ended_octets p (read_as f.found) (shape f.place) entries trees text c tag held right is value)) in
    let here = subst (λ t. IsDueIn t l.next (due_with (slot_in f.found) (alternative_of f.found) (read_as f.found))) (sym value.1) due.is_due in
    let entry = entry_written p l.element l.next l.entries due.trees value.0 (slot_in f.found) (alternative_of f.found) (read_as f.found) c due.held here value.2 in
    let stays = kept tag l.next (slot_in f.found) (alternative_of f.found) (read_as f.found) c due.is_due (open_number p (read_as f.found) (shape f.place) entries trees held) in
    let octets = encoding (normal_element (element_is (read_as f.found)) tag c) in
    let added : unless_left l.next (slot_in f.found) (with_alternative (alternative_of f.found) c) (encoding (normal_element (element_is (read_as f.found)) (tag_of value.0) c)) ≡ octets =
    ap (λ b. elim b as (λ _. List ℕ) [ true ↦ [] | false ↦ encoding (normal_element (element_is (read_as f.found)) (tag_of value.0) c) ]) stays
    ∙ ap (λ t. encoding (normal_element (element_is (read_as f.found)) t c)) value.1 in
    added_octets new l below (slot_in f.found) (with_alternative (alternative_of f.found) c) a.0 octets
    (no_bit_string p l next tag (slot_in f.found) (alternative_of f.found) (read_as f.found) due whole) (entry ∙ ap (λ x. written l.element l.next l.entries ++ x) added) a.5 done

-- a text that isn't a leaf's is right
pub right_other : (p : Named) (e : CodeElement) (text : List ℕ) → ((l : LeafType) → e ≡ LeafElement l → ⊥) → ((l : ModuleLeafType) → e ≡ ModuleLeaf l → ⊥) → (e ≡ BitString → ⊥) → IsRightText p e text
right_other p (LeafElement l) text h m b = absurd (h l refl)
right_other p (ModuleLeaf l) text h m b = absurd (m l refl)
right_other p BitString text h m b = absurd (b refl)
right_other p _ text h m b = tt

-- what has no contents but its entries
pub contents_other : (e : CodeElement) (n : Next) (entries : List (Option Content)) (text : List ℕ) (c : Content) → IsContentOf e n entries text c → ((l : LeafType) → e ≡ LeafElement l → ⊥)
    → ((l : ModuleLeafType) → e ≡ ModuleLeaf l → ⊥) → (e ≡ BitString → ⊥) → ((w : _) → e ≡ LooseWrapper w → ⊥) → written e n entries ++ text ≡ contents_of e n (written e n entries) text
contents_other (LeafElement l) n entries text c k h m b loose = absurd (h l refl)
contents_other (Sequence node) n entries text c k h m b loose = ap (λ t. written (Sequence node) n entries ++ t) k.0 ∙ append-nil _
contents_other (ListOf node) n entries text c k h m b loose = ap (λ t. written (ListOf node) n entries ++ t) k.0 ∙ append-nil _
contents_other (Wrapper w) n entries text c k h m b loose = ap (λ t. written (Wrapper w) n entries ++ t) k.0 ∙ append-nil _
contents_other (LooseWrapper w) n entries text c k h m b loose = absurd (loose w refl)
contents_other (ModuleLeaf l) n entries text c k h m b loose = absurd (m l refl)
contents_other BitString n entries text c k h m b loose = absurd (b refl)
contents_other BitSegment n entries text c k h m b loose = absurd k
contents_other (Foreign x) n entries text c k h m b loose = ap (λ t. written (Foreign x) n entries ++ t) k.0 ∙ append-nil _
contents_other Segment n entries text c k h m b loose = absurd k

-- the contents of an element that ends are made of what stands behind the octets before it
pub leaf_made : (d : NormalFormDraft) (e : CodeElement) (l : LeafType) (n : Next) (entries : List (Option Content)) (text before : List ℕ) → e ≡ LeafElement l → IsBehind d e (before ++ written e n entries) text
    → d.octets ≡ before ++ contents_of e n (written e n entries) text
leaf_made d e l n entries text before is h =
    let there = subst (λ x. IsBehind d x (before ++ written x n entries) text) is h in
    subst (λ x. d.octets ≡ before ++ contents_of x n (written x n entries) text) (sym is) (there ∙ ap (λ x. x ++ text) (append-nil before))

pub module_leaf_made : (d : NormalFormDraft) (e : CodeElement) (l : ModuleLeafType) (n : Next) (entries : List (Option Content)) (text before : List ℕ) → e ≡ ModuleLeaf l → IsBehind d e (before ++ written e n entries) text
    → d.octets ≡ before ++ contents_of e n (written e n entries) text
module_leaf_made d e l n entries text before is h =
    let there = subst (λ x. IsBehind d x (before ++ written x n entries) text) is h in
    subst (λ x. d.octets ≡ before ++ contents_of x n (written x n entries) text) (sym is) (there ∙ ap (λ x. x ++ text) (append-nil before))

pub bit_string_made : (d : NormalFormDraft) (e : CodeElement) (n : Next) (entries : List (Option Content)) (text before middle : List ℕ) → e ≡ BitString → IsBehind d e (before ++ written e n entries) text → middle ≡ d.octets ++ cleared_content d.bits
    → middle ≡ before ++ contents_of e n (written e n entries) text
bit_string_made d e n entries text before middle is h m =
    let there = subst (λ x. IsBehind d x (before ++ written x n entries) text) is h in
    subst (λ x. middle ≡ before ++ contents_of x n (written x n entries) text) (sym is) (m ∙ ap₂ (λ x y. x ++ cleared_content y) (there.0 ∙ append-nil before) there.1)

pub other_made : (d : NormalFormDraft) (e : CodeElement) (n : Next) (entries : List (Option Content)) (text before : List ℕ) → (e ≡ BitString → ⊥) → IsBehind d e (before ++ written e n entries) text → d.octets ≡ before ++ (written e n entries ++ text)
other_made d e n entries text before other h = behind_front d e (before ++ written e n entries) text other h ∙ append_assoc before (written e n entries) text

pub loose_text : (w : _) (n : Next) (entries : List (Option Content)) (text : List ℕ) (c : Content) → IsContentOf (LooseWrapper w) n entries text c → text ≡ []
loose_text w n entries text c k = go n k
  where
    go : (m : Next) → IsContentOf (LooseWrapper w) m entries text c → text ≡ []
    go Segments k = k.0
    go _ k = k.0

-- an element that is usual in the constructed form is no string
pub usual_form : (e : CodeElement) → IsTrue (is_usual e true) → form_of e ≡ true
usual_form (Sequence node) h = refl
usual_form (ListOf node) h = refl
usual_form (Wrapper w) h = refl
usual_form (LooseWrapper w) h = refl
usual_form (Foreign levels) h = refl
usual_form _ h = absurd cc

pub not_segment : (e : CodeElement) → IsTrue (is_usual e true) → e ≡ Segment → ⊥
not_segment Segment h s = cc
not_segment _ h s = cc

pub not_bit_segment : (e : CodeElement) → IsTrue (is_usual e true) → e ≡ BitSegment → ⊥
not_bit_segment BitSegment h s = cc
not_bit_segment _ h s = cc

pub not_bit_string : (e : CodeElement) → IsTrue (is_usual e true) → e ≡ BitString → ⊥
not_bit_string BitString h s = cc
not_bit_string _ h s = cc
