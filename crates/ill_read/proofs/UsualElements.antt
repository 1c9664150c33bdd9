-- What is read in an open element, as elements are added to it and it ends.
use Rattle.ill_tables.specs.declared.profile.Profile.{Profile as Named}
use Rattle.ill_tables.specs.declared.profile.Profile.TheVariants.{Two, Module}
use Rattle.std.proofs.Common.{◌≡◌, ◌⊎◌, ℕ, suc, ◌≤◌, ◌<◌, List, [], ◌∷◌, ◌++◌, append-nil, append_assoc, length, Bool, Option, Some, None, true, false, IsTrue, refl, sym, ap, ap₂, subst, ◌∙◌, inl, inr, arith}
use Rattle.ber_core.specs.Der.{encoding}
use Rattle.ber_core.specs.Id.{form_of_id, tag_of_id}
use Rattle.ber_core.proofs.Foreign.{has_identified, identified_has}
use Rattle.ber_tree.specs.Identifier.{Tag, HasIdentifier, identifier}
use Rattle.ber_tree.specs.Length.{IsLength, shortest_length}
use Rattle.ber_tree.specs.Tree.{Tree, Trees, primitive, constructed, none, more, tag_of, depth, depth_all, Spells, SpellsAll, IsDefinite, IsIndefinite}
use Rattle.ber_leaf.specs.Leaf.{normal_content, value}
use Rattle.ber_leaf.specs.Profile.{profile_two}
use Rattle.ill_schema.specs.Apdu.{Apdu, SpellsApdu, normal_form_in, root}
use Rattle.ill_schema.specs.Content.{Content, simple}
use Rattle.ill_schema.specs.Normal.{normal_tree}
use Rattle.ill_schema.specs.Profiles.{profile_of}
use Rattle.ill_schema.specs.Tagging.{leaf_tag, untagged}
use Rattle.ill_refusals.specs.Next.{missing}
use Rattle.ill_refusals.specs.Place.{Open, allows}
use Rattle.ill_refusals.specs.code.Step.{snoc, opened}
use Rattle.ill_grammar.specs.Contents.{with_alternative}
use Rattle.ill_grammar.specs.Due.{IsDueIn, behind, due_with, first_of, next_is}
use Rattle.ill_grammar.specs.Elements.{element_is}
use Rattle.ill_grammar.specs.LeafTypes.{IsContentIn, leaf_is}
use Rattle.ill_grammar.specs.Standing.{IsHeld, next_at_top, top_part}
use Rattle.ill_grammar.specs.Written.{normal_element}
use Rattle.ill_grammar.specs.code.Judging.{is_usual}
use Rattle.ill_grammar.specs.code.Spots.{IsInSequence, IsOfKind, IsUsualDue, is_bare, is_constructed, is_either, spot_next}
use Rattle.ill_grammar.specs.declared.due.Next.{Next}
use Rattle.ill_grammar.specs.declared.due.Next.TheVariants.{Either, Inner, Nothing, Root}
use Rattle.ill_grammar.specs.declared.due.Slot.{Slot}
use Rattle.ill_grammar.specs.declared.due.Slot.TheVariants.{Inner as Inside}
use Rattle.ill_grammar.specs.declared.element.Element.{Element as CodeElement}
use Rattle.ill_grammar.specs.declared.element.Element.TheVariants.{Leaf, Sequence, List as ListOf, Wrapper, LooseWrapper, Foreign}
use Rattle.ill_grammar.specs.declared.leaf_type.LeafType.{LeafType}
use Rattle.ill_grammar.specs.declared.leaf_type.LeafType.TheVariants as leaf_type
use Rattle.ill_grammar.specs.declared.spot.UsualElement.{UsualElement}
use Rattle.ill_grammar.specs.declared.spot.UsualKind.{UsualKind}
use Rattle.ill_grammar.specs.declared.spot.UsualKind.TheVariants as kind
use Rattle.ill_grammar.proofs.DueTags.{kept}
use Rattle.ill_grammar.proofs.UsualSteps.{general_due, sequence_first, sequence_kept, string_first, visible_due}
use Rattle.ill_read.specs.code.Drafts.{IsRightText}
use Rattle.ill_read.specs.code.OctetDrafts.{enclosed, part_octets, unless_left, written}
use Rattle.ill_read.specs.code.Usual.{Adds, HasAll, HasRead, IsElement, IsSized, IsStringTag, IsStringType, kind_leaf, leaf_octets, mark_of}
use Rattle.ill_read.proofs.AddedEntries.{held_added}
use Rattle.ill_read.proofs.DecoderSteps.{means_apdu}
use Rattle.ill_read.proofs.EndedElements.{content_ended}
use Rattle.ill_read.proofs.OctetDrafts.{not_segment, not_bit_segment, open_number, written_first}
use Rattle.ill_read.proofs.OpenedElements.{holds_none}
use Rattle.ill_read.proofs.WrittenElements.{entry_written, ended_written, of_contents, holds_text}

-- a tree after trees
spelled_more : (ts : Trees) (T : Tree) (a b : List ℕ) → SpellsAll ts a → Spells T b → SpellsAll (snoc ts T) (a ++ b)
spelled_more none T a b h k = (b, [], k, refl, ap (λ z. z ++ b) h ∙ sym (append-nil b))
spelled_more (more U ts) T a b h k = (h.0, h.1 ++ b, h.2, spelled_more ts T h.1 b h.3 k, ap (λ z. z ++ b) h.4 ∙ append_assoc h.0 h.1 b)

depth_more : (ts : Trees) (T : Tree) (n : ℕ) → depth_all ts ≤ n → depth T ≤ n → depth_all (snoc ts T) ≤ n
depth_more none T n h k = omega arith
depth_more (more U ts) T n h k = let r = depth_more ts T n (omega arith) k in omega arith

-- an element that opens may be constructed, if it is usual
usual_allowed : (e : CodeElement) → IsTrue (is_usual e true) → allows (element_is e) true ≡ true
usual_allowed (Sequence node) u = refl
usual_allowed (ListOf node) u = refl
usual_allowed (Wrapper w) u = refl
usual_allowed (LooseWrapper w) u = refl
usual_allowed (Foreign n) u = refl
usual_allowed _ u = absurd cc

usual_text : (e : CodeElement) → IsTrue (is_usual e true) → holds_text e ≡ false
usual_text (Sequence node) u = refl
usual_text (ListOf node) u = refl
usual_text (Wrapper w) u = refl
usual_text (LooseWrapper w) u = refl
usual_text (Foreign n) u = refl
usual_text _ u = absurd cc

usual_right : (p : Named) (e : CodeElement) (text : List ℕ) → IsTrue (is_usual e true) → IsRightText p e text
usual_right p (Sequence node) text u = tt
usual_right p (ListOf node) text u = tt
usual_right p (Wrapper w) text u = tt
usual_right p (LooseWrapper w) text u = tt
usual_right p (Foreign n) text u = tt
usual_right p _ text u = absurd cc

within : (p : Named) (b : List ℕ) → length b ≤ 1_048_576 → length b ≤ (profile_of p).limit
within Two b h = h
within Module b h = h

-- nothing is read yet
pub none_read : (p : Named) (e : CodeElement) (n : Next) (k : ℕ) → n ≡ first_of e → IsTrue (is_usual e true) → HasRead p e n k [] []
none_read p e n k is usual = record {
  entries = [];
  trees = none;
  held = holds_none p e n is (usual_allowed e usual);
  spelled = refl;
  shallow = omega arith;
  is = sym (ap (λ x. written e x []) is ∙ written_first e);
  in_sequence = subst (IsInSequence e) (sym is) (sequence_first e);
}

-- an element more is read
pub one_more : (p : Named) (n : Next) (k : ℕ) (b : List ℕ) (tag : Tag) (slot : Slot) (alt : Option ℕ) (el : CodeElement) (c : Content) → IsDueIn tag n (due_with slot alt el) → is_bare n slot ≡ false → IsElement p el tag k b c
    → Adds p n (behind n slot) k b (unless_left n slot (with_alternative alt c) (encoding (normal_element (element_is el) tag c)))
one_more p n k b tag slot alt el c due bare is e b0 w0 h =
    let T = is.tree in
    let d : IsDueIn (tag_of T) n (due_with slot alt el) = subst (λ t. IsDueIn t n (due_with slot alt el)) (sym is.has_tag) due in
    let w = λ (t : Tag). unless_left n slot (with_alternative alt c) (encoding (normal_element (element_is el) t c)) in
    record {
      entries = _;
      trees = snoc h.trees T;
      held = held_added p e n h.entries h.trees T slot alt el c h.held d is.value;
      spelled = spelled_more h.trees T b0 b h.spelled is.spelled;
      shallow = depth_more h.trees T k h.shallow is.shallow;
      is = ap (λ x. x ++ w tag) h.is ∙ ap (λ t. written e n h.entries ++ w t) (sym is.has_tag) ∙ sym (entry_written p e n h.entries h.trees T slot alt el c h.held d is.value);
      in_sequence = sequence_kept e n slot h.in_sequence bare;
    }

-- what an open element is once it ends, and its normal form
pub record Ended (p : Named) (e : CodeElement) (tag : Tag) (k : ℕ) (b x w : List ℕ) : Type 0 where
  pub content : Content
  pub is : IsElement p e tag (suc k) x content
  pub normal : encoding (normal_element (element_is e) tag content) ≡ identifier tag true ++ (shortest_length (length w) ++ w)

-- a usual element ends
pub all_read : (p : Named) (e : CodeElement) (tag : Tag) (k : ℕ) (b x w : List ℕ) → IsTrue (is_usual e true) → HasIdentifier tag true → HasAll p e k b w
    → IsDefinite tag true b x ⊎ IsIndefinite tag b x → Ended p e tag k b x w
all_read p e tag k b x w usual identified h spells =
    let read = h.1 in
    let o : Open = record (opened (element_is e) tag 0 None) { trees = read.trees } in
    let ends = content_ended p e h.0 read.entries o [] (has_identified tag true identified) read.held (not_segment e usual) (not_bit_segment e usual) h.2 in
    let T = constructed tag read.trees in
    let v = ends.value (usual_right p e _ usual) in
    record {
      content = ends.content;
      is = record { tree = T; has_tag = refl; value = v; spelled = (b, read.spelled, spells); shallow = let q = read.shallow in omega arith };
      normal = ended_written p e h.0 read.entries read.trees _ ends.content tag read.held ends.is (usual_text e usual) (T, refl, v)
          ∙ ap (of_contents tag) (ap (enclosed e h.0) (sym read.is) ∙ h.3);
    }

-- a primitive element of a leaf is whole
pub leaf_whole : (p : Named) (l : LeafType) (tag : Tag) (k : ℕ) (os octets : List ℕ) → 1 ≤ k → HasIdentifier tag false → IsLength (length octets) os → IsContentIn p (leaf_is l) octets
    → IsElement p (Leaf l) tag k (identifier tag false ++ (os ++ octets)) (simple (value (leaf_is l) octets))
leaf_whole p l tag k os octets some identified length_is right = record {
  tree = primitive tag octets;
  has_tag = refl;
  value = (tt, right.0, right.1, refl);
  spelled = record { has_identifier = identified; octets = os; spell_length = length_is; joined = refl };
  shallow = some;
}

-- what is written of it
pub leaf_written : (p : Named) (l : LeafType) (tag : Tag) (octets : List ℕ) → IsContentIn p (leaf_is l) octets
    → encoding (normal_element (element_is (Leaf l)) tag (simple (value (leaf_is l) octets)))
    ≡ identifier tag false ++ (shortest_length (length (normal_content (value (leaf_is l) octets))) ++ normal_content (value (leaf_is l) octets))
leaf_written p l tag octets right = refl

pub adds_as : (p : Named) (n after after' : Next) (k : ℕ) (b b' w w' : List ℕ) → Adds p n after k b w → after ≡ after' → b ≡ b' → w ≡ w' → Adds p n after' k b' w'
adds_as p n after after' k b b' w w' h ea eb ew = subst (λ x. Adds p n x k b' w') ea (subst (λ x. Adds p n after k x w') eb (subst (λ x. Adds p n after k b x) ew h))

leaf_of_kind : (k : UsualKind) (first : Next) (e : CodeElement) (l : LeafType) → IsOfKind k first e → kind_leaf k ≡ Some l → (e ≡ Leaf l) × (is_constructed k ≡ false)
leaf_of_kind kind.Boolean first e l h s = let q : leaf_type.Boolean ≡ l = cc in (h ∙ ap Leaf q, refl)
leaf_of_kind kind.Integer first e l h s = let q : leaf_type.Integer ≡ l = cc in (h ∙ ap Leaf q, refl)
leaf_of_kind kind.Enumerated first e l h s = let q : leaf_type.Enumerated ≡ l = cc in (h ∙ ap Leaf q, refl)
leaf_of_kind kind.Printable first e l h s = let q : leaf_type.Printable ≡ l = cc in (h ∙ ap Leaf q, refl)
leaf_of_kind kind.Date first e l h s = let q : leaf_type.Date ≡ l = cc in (h ∙ ap Leaf q, refl)
leaf_of_kind kind.Time first e l h s = let q : leaf_type.Time ≡ l = cc in (h ∙ ap Leaf q, refl)
leaf_of_kind _ first e l h s = absurd cc

-- a leaf more is read
pub leaf_adds : (p : Named) (i : List ℕ) (n : Next) (u : UsualElement) (l : LeafType) (k : ℕ) (os octets : List ℕ) → IsUsualDue i n u → kind_leaf u.kind ≡ Some l → 0 < k → IsLength (length octets) os
    → IsContentIn p (leaf_is l) octets → Adds p n (spot_next u.after) k (i ++ (os ++ octets)) (leaf_octets u.default l i octets)
leaf_adds p i n u l k os octets due is some sized right =
    let tag = tag_of_id due.id in
    let c = simple (value (leaf_is l) octets) in
    let leaf = leaf_of_kind u.kind (spot_next u.first) due.element l due.kind is in
    let form : form_of_id due.id ≡ false = due.form ∙ leaf.1 in
    let identified : identifier tag false ≡ i = ap (identifier tag) (sym form) ∙ due.identified in
    let there = subst (λ e. IsDueIn tag n (due_with due.slot due.alternative e)) leaf.0 due.is_due in
    let el = leaf_whole p l tag k os octets some (subst (HasIdentifier tag) form due.id.valid) sized right in
    let content = normal_content (value (leaf_is l) octets) in
    adds_as p n _ _ k _ _ _ _ (one_more p n k _ tag due.slot due.alternative (Leaf l) c there due.in_sequence el)
    (sym due.after)
    (ap (λ x. x ++ (os ++ octets)) identified)
    (ap₂ (λ (b : Bool) x. elim b as (λ _. List ℕ) [ true ↦ [] | false ↦ x ++ (shortest_length (length content) ++ content) ]) (due.default l octets leaf.0) identified)

spelled_as : (tag : Tag) (is_definite : Bool) (os b : List ℕ) → HasIdentifier tag true → IsSized is_definite (length b) os
    → IsDefinite tag true b (identifier tag true ++ (os ++ (b ++ mark_of is_definite))) ⊎ IsIndefinite tag b (identifier tag true ++ (os ++ (b ++ mark_of is_definite)))
spelled_as tag true os b has sized = inl (record { has_identifier = has; octets = os; spell_length = sized; joined = ap (λ x. identifier tag true ++ (os ++ x)) (append-nil b) })
spelled_as tag false os b has sized = inr (record { has_identifier = has; joined = ap (λ x. identifier tag true ++ (x ++ (b ++ 0 ∷ 0 ∷ []))) sized })

-- a constructed element more is read
pub open_adds : (p : Named) (i : List ℕ) (n : Next) (u : UsualElement) (is_definite : Bool) (k : ℕ) (os b w : List ℕ) → (due : IsUsualDue i n u) → is_constructed u.kind ≡ true → HasAll p due.element k b w
    → IsSized is_definite (length b) os → Adds p n (spot_next u.after) (suc k) (i ++ (os ++ (b ++ mark_of is_definite))) (i ++ (shortest_length (length w) ++ w))
open_adds p i n u is_definite k os b w due opens all sized =
    let tag = tag_of_id due.id in
    let form : form_of_id due.id ≡ true = due.form ∙ opens in
    let identified : identifier tag true ≡ i = ap (identifier tag) (sym form) ∙ due.identified in
    let has = subst (HasIdentifier tag) form due.id.valid in
    let usual = subst (λ x. IsTrue (is_usual due.element x)) opens due.usual in
    let ended = all_read p due.element tag k b (identifier tag true ++ (os ++ (b ++ mark_of is_definite))) w usual has all (spelled_as tag is_definite os b has sized) in
    let stays = kept tag n due.slot due.alternative due.element ended.content due.is_due (open_number p due.element all.0 all.1.entries all.1.trees all.1.held) in
    adds_as p n _ _ (suc k) _ _ _ _ (one_more p n (suc k) _ tag due.slot due.alternative due.element ended.content due.is_due due.in_sequence ended.is)
    (sym due.after)
    (ap (λ x. x ++ (os ++ (b ++ mark_of is_definite))) identified)
    (ap (λ (y : Bool). elim y as (λ _. List ℕ) [ true ↦ [] | false ↦ encoding (normal_element (element_is due.element) tag ended.content) ]) stays
    ∙ ended.normal ∙ ap (λ x. x ++ (shortest_length (length w) ++ w)) identified)

-- no SEQUENCE is to be put round what an element that ends has in it
closed : (e : CodeElement) (n : Next) (o : List ℕ) → IsInSequence e n → is_either n ≡ false → enclosed e n o ≡ o
closed (LooseWrapper w) (Either v) o h b = absurd cc
closed (LooseWrapper w) Nothing o h b = refl
closed (LooseWrapper w) _ o h b = absurd h
closed _ n o h b = refl

-- an open element ends
pub all_there : (p : Named) (e : CodeElement) (n : Next) (k : ℕ) (b w : List ℕ) → HasRead p e n k b w → missing profile_two (next_is n) ≡ None → is_either n ≡ false → HasAll p e k b w
all_there p e n k b w h complete either = (n, h, complete, closed e n w h.in_sequence either)

-- the identifier octet of a string
abbrev pub string_octet : LeafType → ℕ
string_octet leaf_type.General = 0x1B
string_octet _ = 0x1A

string_in : (p : Named) (e : CodeElement) (tag : IsStringTag e) (l : LeafType) (k : ℕ) (os octets : List ℕ) → IsDueIn (leaf_tag (leaf_is l)) (Inner tag.0) (due_with Inside None (Leaf l))
    → HasIdentifier (leaf_tag (leaf_is l)) false → identifier (leaf_tag (leaf_is l)) false ≡ string_octet l ∷ [] → normal_content (value (leaf_is l) octets) ≡ octets → 0 < k → IsLength (length octets) os
    → IsContentIn p (leaf_is l) octets
    → HasAll p e k (string_octet l ∷ (os ++ octets)) (string_octet l ∷ (shortest_length (length octets) ++ octets))
string_in p e tag l k os octets due has octet same some sized right =
    let w = tag.0 in
    let t = leaf_tag (leaf_is l) in
    let c = simple (value (leaf_is l) octets) in
    let content = normal_content (value (leaf_is l) octets) in
    let none = none_read p (Wrapper w) (Inner w) k (sym (string_first w tag.2)) refl in
    let read = one_more p (Inner w) k _ t Inside None (Leaf l) c due refl (leaf_whole p l t k os octets some has sized right) (Wrapper w) [] [] none in
    subst (λ x. HasAll p x k (string_octet l ∷ (os ++ octets)) (string_octet l ∷ (shortest_length (length octets) ++ octets))) (sym tag.1) (
      Nothing,
      subst (λ x. HasRead p (Wrapper w) Nothing k (x ++ (os ++ octets)) (string_octet l ∷ (shortest_length (length octets) ++ octets))) octet
          (subst (HasRead p (Wrapper w) Nothing k (identifier t false ++ (os ++ octets))) (ap₂ (λ x y. x ++ (shortest_length (length y) ++ y)) octet same) read),
      refl,
      refl,
    )

-- the one string in the tag of an ILL-String
pub string_all : (p : Named) (e : CodeElement) (l : LeafType) (k : ℕ) (os octets : List ℕ) → IsStringTag e → IsStringType l → 0 < k → IsLength (length octets) os → IsContentIn p (leaf_is l) octets
    → HasAll p e k (string_octet l ∷ (os ++ octets)) (string_octet l ∷ (shortest_length (length octets) ++ octets))
string_all p e l k os octets tag (inl is) some sized right =
    subst (λ x. HasAll p e k (string_octet x ∷ (os ++ octets)) (string_octet x ∷ (shortest_length (length octets) ++ octets))) (sym is)
    (string_in p e tag leaf_type.General k os octets (general_due tag.0 tag.2) (identified_has (leaf_tag (leaf_is leaf_type.General)) false refl) refl refl some sized (subst (λ x. IsContentIn p (leaf_is x) octets) is right))
string_all p e l k os octets tag (inr is) some sized right =
    subst (λ x. HasAll p e k (string_octet x ∷ (os ++ octets)) (string_octet x ∷ (shortest_length (length octets) ++ octets))) (sym is)
    (string_in p e tag leaf_type.Visible k os octets (visible_due tag.0 tag.2) (identified_has (leaf_tag (leaf_is leaf_type.Visible)) false refl) refl refl some sized (subst (λ x. IsContentIn p (leaf_is x) octets) is right))

-- nothing is read of a message yet
pub top_first : (p : Named) → Inner (top_part p) ≡ first_of (Wrapper (top_part p))
top_first Two = refl
top_first Module = refl

pub message_whole : (p : Named) (after : Next) (b w : List ℕ) → Adds p (next_at_top p) after 32 b w → missing profile_two (next_is after) ≡ None → is_either after ≡ false
    → HasAll p (Wrapper (top_part p)) 32 b w
message_whole p after b w adds complete either =
    all_there p (Wrapper (top_part p)) after 32 b w (adds (Wrapper (top_part p)) [] [] (none_read p (Wrapper (top_part p)) (next_at_top p) 32 (top_first p) refl)) complete either

-- a message is whole
pub message_read : (p : Named) (b w : List ℕ) → HasAll p (Wrapper (top_part p)) 32 b w → length b ≤ 1_048_576 → length w ≤ 1_048_576
    → (a : Apdu) × SpellsApdu (profile_of p) a b × (w ≡ normal_form_in (profile_of p) a)
message_read p b w h short normal =
    let read = h.1 in
    go h.0 read.entries read.trees read.held read.spelled read.shallow read.is h.2
  where
    go : (n : Next) (es : List (Option Content)) (ts : Trees) → IsHeld p (Wrapper (top_part p)) n es ts → SpellsAll ts b → depth_all ts ≤ 32 → w ≡ written (Wrapper (top_part p)) n es → missing profile_two (next_is n) ≡ None
        → (a : Apdu) × SpellsApdu (profile_of p) a b × (w ≡ normal_form_in (profile_of p) a)
    go Nothing es ts held spelled shallow is complete =
        let c = held.0 in
        let U = held.1 in
        let one : SpellsAll (more U none) b = subst (λ t. SpellsAll t b) held.3 spelled in
        let deep : depth_all (more U none) ≤ 32 = subst (λ t. depth_all t ≤ 32) held.3 shallow in
        let spells : Spells U b = subst (Spells U) (sym (one.4 ∙ ap (λ y. one.0 ++ y) one.3 ∙ append-nil one.0)) one.2 in
        let apdu = means_apdu p c U held.4 in
        let normal_is : w ≡ normal_form_in (profile_of p) apdu.0 =
        is ∙ ap (part_octets (top_part p)) held.2 ∙ ap (λ x. encoding (normal_tree x (root (profile_of p)) untagged)) apdu.1 in (
          apdu.0,
          record {
            encodes = record { tree = U; means = apdu.2; spells = spells; shallow = omega arith; short = within p b short };
            normal_short = within p (normal_form_in (profile_of p) apdu.0) (subst (λ x. length x ≤ 1_048_576) normal_is normal);
          },
          normal_is,
        )
    go (Inner v) es ts held spelled shallow is complete = absurd cc
    go (Root v) es ts held spelled shallow is complete = absurd cc
    go _ es ts held spelled shallow is complete = absurd held
