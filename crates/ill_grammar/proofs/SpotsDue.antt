-- What is due by the entries is due by the definitions.
use Rattle.std.proofs.Common.{◌≡◌, ◌<◌, ◌≤◌, ℕ, ℤ, ◌+◌, Bool, true, false, ◌&&◌, List, [], ◌∷◌, ◌++◌, drop, Option, Some, None, refl, sym, ap, subst, ◌∙◌, inl, inr, slice_get, arith}
use Rattle.std.specs.Prelude.{if◌then◌else◌}
use Rattle.std.proofs.lemmas.Bool.{and_parts}
use Rattle.std.proofs.lemmas.Bool.Decides.{nat_tests}
use Rattle.ber_core.specs.Id.{form_of_id, id_octets, tag_of_id}
use Rattle.ber_core.specs.declared.id.Id.{Id}
use Rattle.ber_core.proofs.Identifiers.{identifier_unique}
use Rattle.ber_core.specs.Foreign.{is_identified}
use Rattle.ber_core.proofs.Foreign.{identified_has}
use Rattle.ber_tree.specs.Identifier.{Tag}
use Rattle.ber_tree.proofs.Lists.{two_cases}
use Rattle.ber_leaf.specs.Profile.{profile_two}
use Rattle.ber_leaf.specs.Leaf.{value}
use Rattle.ill_schema.specs.Content.{simple}
use Rattle.ill_schema.specs.Presence.{is_default}
use Rattle.ill_schema.specs.Tagging.{Tagging, untagged}
use Rattle.ill_tables.specs.declared.node.Kind.{Kind}
use Rattle.ill_tables.specs.declared.node.NodeId.{NodeId}
use Rattle.ill_tables.specs.Table.{kind_of}
use Rattle.ill_refusals.specs.Element.{Component, Element, component_starts, components}
use Rattle.ill_refusals.specs.Next as next
use Rattle.ill_refusals.specs.Next.{Due, due, due_in, items, part, rows}
use Rattle.ill_grammar.specs.Begun as begun
use Rattle.ill_grammar.specs.Cells.{Begins, presence_default}
use Rattle.ill_grammar.specs.Contents.{with_alternative}
use Rattle.ill_grammar.specs.Due.{IsDueIn, IsRowDue, due_with, first_of, next_is}
use Rattle.ill_grammar.specs.Elements.{component_of, element_is, element_with}
use Rattle.ill_grammar.specs.LeafTypes.{leaf_is}
use Rattle.ill_grammar.specs.Written.{left_away}
use Rattle.ill_grammar.specs.code.Judging.{is_usual}
use Rattle.ill_grammar.specs.code.Spots.{IsOfKind, IsUsualDue, default_number, is_bare, is_constructed, is_default_octets, key_octets}
use Rattle.ill_grammar.specs.code.SpotTable.{next_at_offset, offset_end}
use Rattle.ill_grammar.specs.declared.due.Next.{Next}
use Rattle.ill_grammar.specs.declared.due.Next.TheVariants.{Rows, Inner, Items, Either}
use Rattle.ill_grammar.specs.declared.due.Slot.{Slot}
use Rattle.ill_grammar.specs.declared.due.Slot.TheVariants.{Row as AtRow, Item, Inner as Inside}
use Rattle.ill_grammar.specs.declared.element.Element.{Element as CodeElement}
use Rattle.ill_grammar.specs.declared.element.Element.TheVariants as code
use Rattle.ill_grammar.specs.declared.element.Wrapped.{Wrapped}
use Rattle.ill_grammar.specs.declared.leaf_type.LeafType.{LeafType}
use Rattle.ill_grammar.specs.declared.leaf_type.LeafType.TheVariants as leaf_type
use Rattle.ill_grammar.specs.declared.spot.SpotEntry.{SpotEntry}
use Rattle.ill_grammar.specs.declared.spot.UsualElement.{UsualElement}
use Rattle.ill_grammar.specs.declared.spot.UsualKind.{UsualKind}
use Rattle.ill_grammar.specs.declared.spot_entries.TheConstants.{ENTRIES}
use Rattle.ill_grammar.proofs.Defaults.{row_default}
use Rattle.ill_grammar.proofs.DueCells.{inner-due, item-due, row-due}
use Rattle.ill_grammar.proofs.NormalLeaves.{choice_kept}
use Rattle.ill_grammar.proofs.SpotEntries.{Seen, alternative_by, begins_by, code_of, component_begins, due_by, entry_said, fits, first_due, is_open, key_form, key_tag, kind_of_leaf, opened, said_as, said_due, seen_as, slot_default, slot_to, usual_kind}

-- a choice without a tag
open_choice : (c : Component) → is_open c ≡ true → (c.tagging ≡ untagged) × (kind_of c.node ≡ Kind.Choice)
open_choice c h = go c.tagging refl (kind_of c.node) refl h
  where
    go : (g : Tagging) → c.tagging ≡ g → (k : Kind) → kind_of c.node ≡ k
        → (elim g as (λ _. Bool) [ untagged ↦ elim k as (λ _. Bool) [ Kind.Choice ↦ true | _ ↦ false ] | _ ↦ false ]) ≡ true → (c.tagging ≡ untagged) × (kind_of c.node ≡ Kind.Choice)
    go untagged e Kind.Choice f h = (e, f)
    go untagged e _ f h = absurd cc
    go _ e k f h = absurd cc

component_there : (t : Tag) (o : Option Component) (e : Element) → component_begins t o ≡ Some e → (c : Component) × (o ≡ Some c) × (element_with t (component_starts c) ≡ Some e)
component_there t (Some c) e h = (c, refl, h)
component_there t None e h = absurd cc

-- the tag begins the component, itself or by an alternative
begins_is : (t : Tag) (c : Component) (alternative : Option ℕ) (e : Element) → begins_by t c alternative ≡ Some e → Begins t c alternative e
begins_is t c None e h = h
begins_is t c (Some n) e h = elim (two_cases (is_open c)) [
  | inl y ↦
      let o = open_choice c y in
      let k : component_begins t (slice_get (components profile_two c.node) n) ≡ Some e = sym (ap (λ b. if b then component_begins t (slice_get (components profile_two c.node) n) else None) y) ∙ h in
      (o.0, o.1, component_there t _ e k)
  | inr y ↦ absurd (let q : None ≡ Some e = sym (ap (λ b. if b then component_begins t (slice_get (components profile_two c.node) n) else None) y) ∙ h in cc)
]

-- a row that is due
rows_due : (t : Tag) (node : NodeId) (k r : ℕ) (alternative : Option ℕ) (el : CodeElement) (c : Component) (e : Element) (n : next.Next) (cs : List Component) → drop r (components profile_two node) ≡ cs
    → due_in profile_two t (drop k (components profile_two node)) ≡ Some (part c e n) → Some (part c e n) ≡ first_due cs (element_is el) (λ c cs. rows cs) → begins_by t c alternative ≡ Some (element_is el) → k ≤ r
    → IsRowDue t node k r alternative (begun.Element el)
rows_due t node k r alternative el c e n [] at h is b le = absurd cc
rows_due t node k r alternative el c e n (d ∷ cs) at h is b le =
    let same : element_is el ≡ e = cc in
    row-due t node k r (part c e n) alternative (begun.Element el) h (record { component = d; behind = cs; is_row = at; is_due = cc }) le
    (subst (λ x. Begins t c alternative x) same (begins_is t c alternative (element_is el) b)) same

first_is : (cs : List Component) (x : Element) (c : Component) (e : Element) (m : next.Next) → Some (part c e m) ≡ first_due cs x (λ c cs. items c) → x ≡ e
first_is [] x c e m h = absurd cc
first_is (d ∷ cs) x c e m h = cc

-- what the definitions find due, and the entry says, is due
due_said : (t : Tag) (n : Next) (slot : Slot) (alternative : Option ℕ) (el : CodeElement) (c : Component) (e : Element) (m : next.Next) → due profile_two t (next_is n) ≡ Some (part c e m)
    → Some (part c e m) ≡ said_due n slot (element_is el) → begins_by t c alternative ≡ Some (element_is el) → fits t n slot ≡ true → IsDueIn t n (due_with slot alternative el)
due_said t (Rows node k) (AtRow r) alternative el c e m h is b f =
    rows_due t node k r alternative el c e m (drop r (components profile_two node)) refl h is b (grind (arith, nat_tests))
due_said t (Items node) Item alternative el c e m h is b f =
    let same = first_is (components profile_two node) (element_is el) c e m is in
    item-due t node (part c e m) (due_with Item alternative el) h (subst (λ x. Begins t c alternative x) same (begins_is t c alternative (element_is el) b)) refl same
due_said t (Inner w) Inside alternative el c e m h is b f =
    let same : element_is el ≡ e = cc in
    inner-due t w (part c e m) (due_with Inside alternative el) h (subst (λ x. Begins t c alternative x) same (begins_is t c alternative (element_is el) b)) refl same
due_said t (Either w) Inside alternative el c e m h is b f =
    let same : element_is el ≡ e = cc in
    let inside : due_in profile_two t (component_of w ∷ []) ≡ Some (part c e m) =
    sym (ap (λ b. elim b as (λ _. Option Due) [ true ↦ due_in profile_two t (component_of w ∷ []) | false ↦ due_in profile_two t (components profile_two w.node) ]) f) ∙ h in
    inl (f, inner-due t w (part c e m) (due_with Inside alternative el) inside (subst (λ x. Begins t c alternative x) same (begins_is t c alternative (element_is el) b)) refl same)
due_said t _ _ alternative el c e m h is b f = absurd cc

-- the default of what is due
default_said : (t : Tag) (n : Next) (slot : Slot) (alternative : Option ℕ) (l : LeafType) (o : List ℕ) → IsDueIn t n (due_with slot alternative (code.Leaf l)) → fits t n slot ≡ true
    → left_away n slot (with_alternative alternative (simple (value (leaf_is l) o))) ≡ is_default_octets (slot_default n slot alternative) (leaf_is l) o
default_said t n slot (Some m) l o d f = choice_kept (simple (value (leaf_is l) o)) n slot m
default_said t (Rows node k) (AtRow r) None l o d f =
    ap (λ x. elim x as (λ _. Bool) [ Some row ↦ is_default row (simple (value (leaf_is l) o)) | None ↦ false ]) d.is_row
    ∙ row_default node r d.row t (leaf_is l) o d.is_row d.begins
    ∙ ap (λ x. is_default_octets (elim x as (λ _. Option ℤ) [ Some row ↦ presence_default row.presence | None ↦ None ]) (leaf_is l) o) (sym d.is_row)
default_said t (Either w) (AtRow r) None l o d f = absurd cc
default_said t _ _ None l o d f = refl

-- what an element of a kind is
string_or : (node : NodeId) (w : Wrapped) (k : UsualKind) (first : Next) → w.node ≡ node → (elim node as (λ _. Option UsualKind) [ NodeId.IllString ↦ Some UsualKind.StringWrapper | _ ↦ Some UsualKind.Constructed ]) ≡ Some k
    → opened k first ≡ opened k (first_of (code.Wrapper w)) → IsOfKind k first (code.Wrapper w)
string_or NodeId.IllString w k first e h o = let q : UsualKind.StringWrapper ≡ k = cc in subst (λ k. IsOfKind k first (code.Wrapper w)) q (w, refl, e)
string_or _ w k first e h o = let q : UsualKind.Constructed ≡ k = cc in subst (λ k. opened k first ≡ opened k (first_of (code.Wrapper w)) → IsOfKind k first (code.Wrapper w)) q (λ z. z) o

of_leaf : (l : LeafType) (k : UsualKind) (first : Next) → kind_of_leaf l ≡ Some k → IsOfKind k first (code.Leaf l)
of_leaf leaf_type.Boolean k first h = let q : UsualKind.Boolean ≡ k = cc in subst (λ k. IsOfKind k first (code.Leaf leaf_type.Boolean)) q refl
of_leaf leaf_type.Integer k first h = let q : UsualKind.Integer ≡ k = cc in subst (λ k. IsOfKind k first (code.Leaf leaf_type.Integer)) q refl
of_leaf leaf_type.Enumerated k first h = let q : UsualKind.Enumerated ≡ k = cc in subst (λ k. IsOfKind k first (code.Leaf leaf_type.Enumerated)) q refl
of_leaf leaf_type.Printable k first h = let q : UsualKind.Printable ≡ k = cc in subst (λ k. IsOfKind k first (code.Leaf leaf_type.Printable)) q refl
of_leaf leaf_type.Date k first h = let q : UsualKind.Date ≡ k = cc in subst (λ k. IsOfKind k first (code.Leaf leaf_type.Date)) q refl
of_leaf leaf_type.Time k first h = let q : UsualKind.Time ≡ k = cc in subst (λ k. IsOfKind k first (code.Leaf leaf_type.Time)) q refl
of_leaf _ k first h = absurd cc

of_kind : (e : CodeElement) (k : UsualKind) (first : Next) → usual_kind e ≡ Some k → opened k first ≡ opened k (first_of e) → IsOfKind k first e
of_kind (code.Leaf l) k first h o = of_leaf l k first h
of_kind (code.Wrapper w) k first h o = string_or w.node w k first refl h o
of_kind e k first h o = let q : UsualKind.Constructed ≡ k = cc in subst (λ k. opened k first ≡ opened k (first_of e) → IsOfKind k first e) q (λ z. z) o

bare_none : (t : Tag) (n : Next) (slot : Slot) → fits t n slot ≡ true → is_bare n slot ≡ false
bare_none t (Either w) (AtRow r) f = absurd cc
bare_none t _ _ f = refl

-- the facts of an entry
entry_due : (n : Next) (key : ℕ) (x : SpotEntry) (u : UsualElement) (d : Option Due) → due_by n key ≡ d → seen_as n key x d ≡ said_as n key x d
    → u.kind ≡ x.kind → u.after.offset ≡ x.after → u.first.offset ≡ x.first → u.default ≡ x.default → IsUsualDue (key_octets key) n u
entry_due n key x u None h s kind after first default = absurd (let q : None ≡ Some _ = ap (λ (y : Seen). y.begins) s in cc)
entry_due n key x u (Some (part c e m)) h s kind after first default =
    let t = key_tag key in
    let slot = slot_to n (next_at_offset x.after) in
    let a = alternative_by t c in
    let el = code_of e in
    let right : (fits t n slot && (is_usual el (key_form key) && is_identified t (key_form key))) ≡ true = ap (λ (y : Seen). y.is_right) s in
    let fit = and_parts (fits t n slot) (is_usual el (key_form key) && is_identified t (key_form key)) right in
    let usual = and_parts (is_usual el (key_form key)) (is_identified t (key_form key)) fit.1 in
    let id : Id = record { class = t.class; constructed = key_form key; number = t.number; valid = identified_has t (key_form key) usual.1 } in
    let form : key_form key ≡ is_constructed u.kind = ap (λ (y : Seen). y.form) s ∙ ap is_constructed (sym kind) in
    let is : IsDueIn t n (due_with slot a el) = due_said t n slot a el c e m h (ap (λ (y : Seen). y.is_due) s) (ap (λ (y : Seen). y.begins) s) fit.0 in
    record {
      id = id;
      identified = ap (λ (y : Seen). y.octets) s;
      slot = slot;
      alternative = a;
      element = el;
      is_due = is;
      after = ap next_at_offset after ∙ ap (λ (y : Seen). y.after) s;
      form = form;
      usual = subst (λ (b : Bool). is_usual el b ≡ true) form usual.0;
      kind = subst (λ (o : ℕ). IsOfKind u.kind (next_at_offset o) el) (sym first) (subst (λ (k : UsualKind). IsOfKind k (next_at_offset x.first) el) (sym kind)
          (of_kind el x.kind (next_at_offset x.first) (ap (λ (y : Seen). y.kind) s) (ap (λ (y : Seen). y.first) s)));
      default = λ l o same. default_said t n slot a l o (subst (λ y. IsDueIn t n (due_with slot a y)) same is) fit.0 ∙ ap (λ y. is_default_octets y (leaf_is l) o) (ap (λ (y : Seen). y.default) s ∙ ap default_number (sym default));
      in_sequence = bare_none t n slot fit.0;
    }
entry_due n key x u (Some _) h s kind after first default = absurd (let q : None ≡ Some _ = ap (λ (y : Seen). y.begins) s in cc)

-- the element of an entry that is the spot's is due there
pub usual_due : (offset key : ℕ) (x : SpotEntry) (u : UsualElement) → offset < offset_end → slice_get ENTRIES (offset + key) ≡ Some x → x.spot ≡ offset
    → u.kind ≡ x.kind → u.after.offset ≡ x.after → u.first.offset ≡ x.first → u.default ≡ x.default → IsUsualDue (key_octets key) (next_at_offset offset) u
usual_due offset key x u low there spot kind after first default =
    entry_due (next_at_offset offset) key x u (due_by (next_at_offset offset) key) refl (entry_said offset key x low there spot) kind after first default

-- an identifier of these octets is the one that the element is due with
pub due_for : (octets : List ℕ) (n : Next) (u : UsualElement) (id : Id) (h : IsUsualDue octets n u) → id_octets id ≡ octets → (tag_of_id h.id ≡ tag_of_id id) × (form_of_id h.id ≡ form_of_id id)
due_for octets n u id h is =
    let same = identifier_unique (tag_of_id h.id) (tag_of_id id) (form_of_id h.id) (form_of_id id) [] [] h.id.valid id.valid (ap (λ x. x ++ []) (h.identified ∙ sym is)) in
    (same.0, same.1)
