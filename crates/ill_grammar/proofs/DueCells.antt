-- What the cells find is due by the decoder's words.
use Rattle.std.proofs.Common.{◌≡◌, ◌⊎◌, ℕ, zero, suc, ◌+◌, ◌-◌, ◌≤◌, Bool, true, false, ◌&&◌, not, List, [], ◌∷◌, drop, IsTrue, Option, Some, None, option_map, refl, sym, ap, subst, ◌∙◌, inl, inr, arith, slice_get}
use Rattle.std.specs.Prelude.{if◌then◌else◌, nat_eq}
use Rattle.ber_tree.specs.Identifier.{Tag}
use Rattle.ber_core.specs.Foreign.{foreign_levels}
use Rattle.ber_tree.specs.Tree.{octet_string}
use Rattle.ber_leaf.specs.Leaf.{bit_string}
use Rattle.ber_leaf.specs.Segments.{segment_tag}
use Rattle.ber_leaf.specs.Profile.{profile_two}
use Rattle.ill_tables.specs.declared.node.Kind.{Kind}
use Rattle.ill_tables.specs.declared.node.LeafKind.{LeafKind}
use Rattle.ill_tables.specs.declared.node.NodeId.{NodeId}
use Rattle.ill_tables.specs.declared.part.PartId.{PartId}
use Rattle.ill_tables.specs.declared.part.Presence.{Presence}
use Rattle.ill_tables.specs.declared.part.Row.{Row}
use Rattle.ill_tables.specs.Table.{kind_of, rows_of}
use Rattle.ill_schema.specs.Tagging.{same_tag, sequence_tag}
use Rattle.ill_refusals.specs.Element.{Component, Element, Start, components, list, own_starts, sequence, start, starts}
use Rattle.ill_refusals.specs.Next as next
use Rattle.ill_refusals.specs.Next.{part, octets, any, rows, items, due, due_in, element_of, start_of}
use Rattle.ber_tree.proofs.Lists.{two_cases}
use Rattle.ill_grammar.specs.Cells as cells
use Rattle.ill_grammar.specs.Cells.{BeginsDue, is_strict, levels_in, wrapped}
use Rattle.ill_grammar.specs.Places.{IsAtRow, IsDueWithTag, PlaceView, due_of, element_found, next_at, node_at, node_of, part_in, part_of, place_after, row_of, slot_of, type_of}
use Rattle.ill_grammar.specs.code.Meant.{is_wrapped, opens_in}
use Rattle.ill_grammar.specs.declared.place.Place.{Place}
use Rattle.ill_grammar.specs.declared.place.Found.{Found as CellFound}
use Rattle.ill_grammar.specs.declared.cell.ElementType.{ElementType}
use Rattle.ill_grammar.specs.declared.cell.ElementType.TheVariants as element_type
use Rattle.ill_grammar.proofs.FirstAndAfter.{element-due}
use Rattle.ill_grammar.proofs.ReadLeaves.{module_segments, read_segments}
use Rattle.ill_grammar.proofs.Scanning.{same_tag-swap, sequence_starts}
use Rattle.ill_grammar.specs.declared.cell.EntryRole.{EntryRole}
use Rattle.ill_grammar.specs.declared.cell.EntryRole.TheVariants as cell
use Rattle.ill_grammar.specs.Elements.{component_of, component_at, element_is, element_with, found_is}
use Rattle.ill_grammar.specs.Cells.{Begins}
use Rattle.ill_grammar.specs.Due.{BeginsAt, DueEntry, IsComing, IsDueIn, IsDueInRows, IsForeignDue, IsItemDue, IsInnerDue, IsRowDue, IsSegmentDue, MayAllLack, behind, due_as, element_as, first_of, found_as, next_is, shape, shape_around, shape_at, shape_in, shape_of, slot_as}
use Rattle.ill_grammar.specs.declared.due.Next.{Next}
use Rattle.ill_grammar.specs.declared.due.Next.TheVariants.{Rows, Inner, Items, Either, Segments, BitSegments, Root, Foreigns, Nothing}
use Rattle.ill_grammar.proofs.DueElements.{first_due}
use Rattle.ill_grammar.specs.declared.due.Slot.{Slot}
use Rattle.ill_grammar.specs.declared.due.Slot.TheVariants.{Row as AtRow, Item, Inner as Inside, Segment as InString, Foreign as InForeign}
use Rattle.ill_grammar.specs.Begun.{Begun}
use Rattle.ill_grammar.specs.declared.element.Wrapped.{Wrapped}
use Rattle.ill_grammar.proofs.RowStarts.{component-row}

begins-due : (t : Tag) (c : Component) (e : Element) (n : next.Next) (D : next.Due) (alt : Option ℕ) → D ≡ part c e n → BeginsDue t D alt → Begins t c alt (element_of D)
begins-due t c e n D alt is b =
    subst (λ x. Begins t c alt (element_of x)) (sym is) (subst (λ x. BeginsDue t x alt) is b)

-- a row is due only if none before it has to be there
record Lacks (t : Tag) (node : NodeId) (n : ℕ) (c : Component) (cs : List Component) (D : next.Due) : Type 0 where
  may : c.presence ≡ Presence.Must → ⊥
  rest : due_in profile_two t cs ≡ Some D

lacks-first : (t : Tag) (node : NodeId) (n r : ℕ) (c : Component) (cs : List Component) (D : next.Due) → (n ≡ r → ⊥) → c.part ≡ record { node = node; row = n } → (x : Component) → x.part ≡ record { node = node; row = r }
    → (e : Element) (m : next.Next) → D ≡ part x e m → due_in profile_two t (c ∷ cs) ≡ Some D → Lacks t node n c cs D
lacks-first t node n r c cs D apart here x there' e m is h = at (start_of profile_two t c) h
  where
    by : (y : Presence) → c.presence ≡ y → (elim y as (λ _. Option next.Due) [ Presence.Must ↦ None | _ ↦ due_in profile_two t cs ]) ≡ Some D → Lacks t node n c cs D
    by Presence.Must p k = absurd cc
    by Presence.May p k = record { may = λ q. (let z : Presence.May ≡ Presence.Must = sym p ∙ q in cc); rest = k }
    by Presence.LeftOut p k = record { may = λ q. (let z : Presence.LeftOut ≡ Presence.Must = sym p ∙ q in cc); rest = k }
    by (Presence.Default d) p k = record { may = λ q. (let z : Presence.Default d ≡ Presence.Must = sym p ∙ q in cc); rest = k }

    at : (o : Option Start) → first_due t c cs o ≡ Some D → Lacks t node n c cs D
    at None k = by c.presence refl k
    at (Some s) k =
        let q : part c s.element (rows cs) ≡ part x e m = (let z : part c s.element (rows cs) ≡ D = cc in z ∙ is) in
        let same : c ≡ x = cc in
        let parts : c.part ≡ x.part = ap (λ (y : Component). y.part) same in
        let p : record { node = node; row = n } ≡ record { node = node; row = r } = sym here ∙ parts ∙ there' in
        absurd (apart (ap (λ (y : PartId). y.row) p))

drop-next : (i : ℕ) (xs : List Component) (y : Component) (ys : List Component) → drop i xs ≡ y ∷ ys → drop (suc i) xs ≡ ys
drop-next zero [] y ys f = absurd cc
drop-next zero (x ∷ xs) y ys f = cc
drop-next (suc i) [] y ys f = absurd cc
drop-next (suc i) (x ∷ xs) y ys f = drop-next i xs y ys f

drop-after : (i : ℕ) (xs : List Component) (y : Component) (ys : List Component) → drop i xs ≡ y ∷ ys → drop (i + 1) xs ≡ ys
drop-after i xs y ys f = let z : i + 1 ≡ suc i = omega arith in ap (λ (j : ℕ). drop j xs) z ∙ drop-next i xs y ys f

at-or-after : (n k : ℕ) → n ≤ k → (n ≡ k) ⊎ (n + 1 ≤ k)
at-or-after n k h = elim (two_cases (nat_eq n k)) [ inl y ↦ inl (grind (arith, y)) | inr z ↦ inr (grind (arith, h, z)) ]

lacking-on : (t : Tag) (node : NodeId) (D : next.Due) (m n r : ℕ) → r ≡ n + suc m → due_in profile_two t (drop n (components profile_two node)) ≡ Some D → IsAtRow node r D
    → (cs : List Component) → drop n (components profile_two node) ≡ cs
    → (due_in profile_two t (drop (n + 1) (components profile_two node)) ≡ Some D → MayAllLack node (n + 1) r) → MayAllLack node n r
lacking-on t node D m n r e h a [] f others = absurd (let q : None ≡ Some D = sym (ap (due_in profile_two t) f) ∙ h in cc)
lacking-on t node D m n r e h a (c ∷ cs) f others =
    let here = component-row node n c cs f in
    let last = component-row node r a.component a.behind a.is_row in
    let apart : n ≡ r → ⊥ = λ q. omega (arith, q, e) in
    let l = lacks-first t node n r c cs D apart (ap (λ (y : Component). y.part) here.2) a.component (ap (λ (y : Component). y.part) last.2) (element_of D) (rows a.behind) a.is_due (sym (ap (due_in profile_two t) f) ∙ h) in
    let rest = others (ap (due_in profile_two t) (drop-after n (components profile_two node) c cs f) ∙ l.rest) in
    λ k row from until is must. elim (at-or-after n k from) [
      | inl q ↦
          let same : here.0 ≡ row = (let z : Some here.0 ≡ Some row = sym here.1 ∙ ap (slice_get (rows_of node)) q ∙ is in cc) in
          absurd (l.may (ap (λ (y : Component). y.presence) here.2 ∙ ap (λ (y : Row). y.presence) same ∙ must))
      | inr q ↦ rest k row q until is must
    ]

lacking : (t : Tag) (node : NodeId) (D : next.Due) (m n r : ℕ) → r ≡ n + m → due_in profile_two t (drop n (components profile_two node)) ≡ Some D → IsAtRow node r D → MayAllLack node n r
lacking t node D zero n r e h a = λ k row from until is must. absurd (omega (arith, e, from, until))
lacking t node D (suc m) n r e h a = lacking-on t node D m n r e h a (drop n (components profile_two node)) refl (λ k. lacking t node D m (n + 1) r (omega (arith, e)) k a)

-- a row that is due
pub row-due : (t : Tag) (node : NodeId) (n r : ℕ) (D : next.Due) (alt : Option ℕ) (found : Begun) → due_in profile_two t (drop n (components profile_two node)) ≡ Some D → IsAtRow node r D → n ≤ r
    → BeginsDue t D alt → found_is found ≡ element_of D → IsRowDue t node n r alt found
row-due t node n r D alt found h a from b is =
    let w = component-row node r a.component a.behind a.is_row in
    let id : PartId = record { node = node; row = r } in
    let behind : drop (r + 1) (components profile_two node) ≡ a.behind = drop-after r (components profile_two node) a.component a.behind a.is_row in
    let begins : Begins t a.component alt (element_of D) = begins-due t a.component (element_of D) (rows a.behind) D alt a.is_due b in
    record {
      row = w.0;
      is_row = w.1;
      behind = from;
      lacking = let m = split n r from in lacking t node D m.0 n r m.1 h a;
      is =
          h ∙ ap Some (a.is_due ∙ ap (λ c. part c (element_of D) (rows a.behind)) w.2 ∙ ap (λ e. part (component_at id w.0) e (rows a.behind)) (sym is)
          ∙ ap (λ cs. part (component_at id w.0) (found_is found) (rows cs)) (sym behind));
      begins = subst (λ e. Begins t (component_at id w.0) alt e) (sym is) (subst (λ c. Begins t c alt (element_of D)) w.2 begins);
    }
  where
    split : (i j : ℕ) → i ≤ j → (m : ℕ) × (j ≡ i + m)
    split i j h = (j - i, omega (arith, h))

-- the one component of a wrapper
one-due : (t : Tag) (c : Component) (D : next.Due) → c.presence ≡ Presence.Must → due_in profile_two t (c ∷ []) ≡ Some D
    → (e : Element) × (D ≡ part c e (rows [])) × (element_with t (starts profile_two c) ≡ Some e)
one-due t c D must h = at (start_of profile_two t c) refl h
  where
    at : (o : Option Start) → start_of profile_two t c ≡ o → first_due t c [] o ≡ Some D → (e : Element) × (D ≡ part c e (rows [])) × (element_with t (starts profile_two c) ≡ Some e)
    at None f k = absurd (let q : None ≡ Some D = sym (ap (λ (x : Presence). elim x as (λ _. Option next.Due) [ Presence.Must ↦ None | _ ↦ due_in profile_two t [] ]) must) ∙ k in cc)
    at (Some s) f k = (s.element, (let q : part c s.element (rows []) ≡ D = cc in sym q), ap (option_map (λ (x : Start). x.element)) f)

-- nothing is due in a wrapper whose component doesn't begin with the tag
none-due : (t : Tag) (c : Component) (D : next.Due) → c.presence ≡ Presence.Must → element_with t (starts profile_two c) ≡ None → due_in profile_two t (c ∷ []) ≡ Some D → ⊥
none-due t c D must f h = let o = one-due t c D must h in (let q : None ≡ Some o.0 = sym f ∙ o.2 in cc)

pub inner-due : (t : Tag) (w : Wrapped) (D : next.Due) (d : DueEntry) → due_in profile_two t (component_of w ∷ []) ≡ Some D → BeginsDue t D d.alternative
    → d.slot ≡ Inside → found_is d.found ≡ element_of D → IsInnerDue t w d
inner-due t w D d h b slot is =
    let o = one-due t (component_of w) D refl h in
    let e : element_of D ≡ o.0 = ap element_of o.1 in
    record {
      slot = slot;
      begun = record {
        is = o.2 ∙ ap Some (sym e ∙ sym is);
        begins = subst (λ x. Begins t (component_of w) d.alternative x) (sym is) (begins-due t (component_of w) o.0 (rows []) D d.alternative o.1 b);
      };
    }

-- an item of a list that is due
item-start : (t : Tag) (node : NodeId) (c : Component) (cs : List Component) (D : next.Due) (d : DueEntry) (o : Option Start) → components profile_two node ≡ c ∷ cs → start_of profile_two t c ≡ o
    → (elim o as (λ _. Option next.Due) [ Some s ↦ Some (part c s.element (items c)) | None ↦ None ]) ≡ Some D → BeginsDue t D d.alternative → d.slot ≡ Item → found_is d.found ≡ element_of D → IsItemDue t node d
item-start t node c cs D d None f g m b slot is = absurd (let q : None ≡ Some D = m in cc)
item-start t node c cs D d (Some s) f g m b slot is =
    let w = component-row node 0 c cs f in
    let q : part c s.element (items c) ≡ D = cc in
    let e : found_is d.found ≡ s.element = is ∙ ap element_of (sym q) in
    record {
      slot = slot;
      row = w.0;
      is_row = w.1;
      begun = record {
        is = subst (λ x. element_with t (starts profile_two x) ≡ Some (found_is d.found)) w.2 (ap (option_map (λ (x : Start). x.element)) g ∙ ap Some (sym e));
        begins = subst (λ x. Begins t x d.alternative (found_is d.found)) w.2
            (subst (λ x. Begins t c d.alternative x) (sym is) (begins-due t c s.element (items c) D d.alternative (sym q) b));
      };
    }

pub item-due : (t : Tag) (node : NodeId) (D : next.Due) (d : DueEntry) → due profile_two t (next.opening profile_two (list node)) ≡ Some D → BeginsDue t D d.alternative
    → d.slot ≡ Item → found_is d.found ≡ element_of D → IsItemDue t node d
item-due t node D d h b slot is = go (components profile_two node) refl h
  where
    go : (cs : List Component) → components profile_two node ≡ cs → due profile_two t (elim cs as (λ _. next.Next) [ [] ↦ rows [] | c ∷ _ ↦ items c ]) ≡ Some D → IsItemDue t node d
    go [] f k = absurd (let q : None ≡ Some D = k in cc)
    go (c ∷ cs) f k = item-start t node c cs D d (start_of profile_two t c) f refl k b slot is

-- a segment that is due
pub segment-due : (u t : Tag) (D : next.Due) (d : DueEntry) → due profile_two t (next.segments u) ≡ Some D → d.slot ≡ InString → found_is d.found ≡ element_of D → IsSegmentDue u t d
segment-due u t D d h slot is = at (same_tag t u) refl h
  where
    at : (b : Bool) → same_tag t u ≡ b → (if b then Some (octets u) else None) ≡ Some D → IsSegmentDue u t d
    at true f k = record { slot = slot; tag = f; found = is ∙ ap element_of (let q : octets u ≡ D = cc in sym q) }
    at false f k = absurd cc

-- an element of a foreign tree that is due
foreign-due : (t : Tag) (n : ℕ) (after : next.Next) (slot : Slot) (D : next.Due) (d : DueEntry) → any n after ≡ D → BeginsDue t D d.alternative → d.slot ≡ slot → found_is d.found ≡ element_of D → IsForeignDue n slot d
foreign-due t n after slot D d e b at is = record {
  slot = at;
  alternative = subst (λ x. BeginsDue t x d.alternative) (sym e) b;
  found = is ∙ ap element_of (sym e);
}

-- what is due at a place with the tag, in its slot
pub record IsPlaced (t : Tag) (k : Kind) (p : PartId) (node : NodeId) (position at row : ℕ) (s : EntryRole) (D : next.Due) : Type 0 where
  pub is : due profile_two t (cells.next_of_kind k p node position) ≡ Some D
  pub later : position ≤ at
  pub passed : position ≡ 0 → (at ≡ 0 → ⊥) → element_with t (starts profile_two (wrapped p node)) ≡ None
  pub placed : cells.is_placed k at s ≡ true
  pub at_row : s ≡ cell.Row → IsAtRow node row D
  pub number : row ≡ cells.row_before at
  pub inner : s ≡ cell.Inner → (q : PartId) × (e : Element) × (D ≡ part (wrapped q node) e (rows []))
  pub stays : k ≡ Kind.Any → at ≡ position

around : (t : Tag) (p : PartId) (node : NodeId) (at row : ℕ) (k : Kind) (s : EntryRole) (D : next.Due) (d : DueEntry) → cells.is_any k ≡ false → due_in profile_two t (wrapped p node ∷ []) ≡ Some D
    → ((at ≡ 0 → ⊥) → element_with t (starts profile_two (wrapped p node)) ≡ None) → cells.is_placed k at s ≡ true → d.slot ≡ slot_as row s → BeginsDue t D d.alternative → found_is d.found ≡ element_of D
    → IsInnerDue t (record { part = p; node = node }) d
around t p node zero row k cell.Inner D d closed h passed placed slot b is = inner-due t (record { part = p; node = node }) D d h b slot is
around t p node (suc at) row k s D d closed h passed placed slot b is = absurd (none-due t (wrapped p node) D refl (passed (λ z. cc)) h)
around t p node zero row k cell.Root D d closed h passed placed slot b is = absurd (let q : false ≡ true = sym closed ∙ placed in cc)
around t p node zero row k _ D d closed h passed placed slot b is = absurd cc

-- in a list, from its first position on, there are items only
only-item : (at : ℕ) (s : EntryRole) → 1 ≤ at → cells.is_placed Kind.SeqOf at s ≡ true → s ≡ cell.Item
only-item zero s h p = absurd (omega (arith, h))
only-item (suc n) cell.Item h p = refl
only-item (suc zero) _ h p = absurd cc
only-item (suc (suc n)) _ h p = absurd cc

-- in a string there are segments only
only-segment : (k : Kind) (at : ℕ) (s : EntryRole) → cells.is_leaf k ≡ true → 1 ≤ at → cells.is_placed k at s ≡ true → s ≡ cell.Segment
only-segment k zero s l h p = absurd (omega (arith, h))
only-segment k (suc n) cell.Segment l h p = refl
only-segment k (suc n) cell.Inner l h p = absurd cc
only-segment k (suc (suc n)) cell.Item l h p = absurd cc
only-segment k (suc n) cell.Root l h p = absurd cc
only-segment k (suc (suc n)) cell.Foreign l h p = absurd cc
only-segment (Kind.Leaf x) (suc zero) cell.Foreign l h p = absurd cc
only-segment _ (suc zero) cell.Foreign l h p = absurd cc
only-segment (Kind.Leaf x) (suc n) cell.Row l h p = absurd cc
only-segment _ (suc n) cell.Row l h p = absurd cc
only-segment (Kind.Leaf x) (suc zero) cell.Item l h p = absurd cc
only-segment _ (suc zero) cell.Item l h p = absurd cc

sequence-with : (t : Tag) (node : NodeId) (o : Option Element) → element_with t (start sequence_tag (sequence node) ∷ []) ≡ o
    → same_tag t sequence_tag ≡ (elim o as (λ _. Bool) [ Some e ↦ true | None ↦ false ])
sequence-with t node o h = same_tag-swap t sequence_tag ∙ at (same_tag sequence_tag t) ∙ ap (λ x. elim x as (λ _. Bool) [ Some e ↦ true | None ↦ false ]) h
  where
    at : (b : Bool) → b ≡ (elim (option_map (λ (s : Start). s.element) (if b then Some (start sequence_tag (sequence node)) else None)) as (λ _. Bool) [ Some e ↦ true | None ↦ false ])
    at true = refl
    at false = refl

-- the SEQUENCE round the components of a node
sequence-due : (t : Tag) (q : PartId) (node : NodeId) (alt : Option ℕ) (e : Element) → kind_of node ≡ Kind.Seq → Begins t (wrapped q node) alt e → same_tag t sequence_tag ≡ true
sequence-due t q node None e k b = sequence-with t node (Some e) (ap (λ x. element_with t (own_starts x node)) (sym k) ∙ b)
sequence-due t q node (Some n) e k b = absurd (let z : Kind.Seq ≡ Kind.Choice = sym k ∙ b.1 in cc)

in-row : (t : Tag) (node : NodeId) (n row : ℕ) (D : next.Due) (d : DueEntry) → d.slot ≡ AtRow row → due_in profile_two t (drop n (components profile_two node)) ≡ Some D → IsAtRow node row D → n ≤ row
    → BeginsDue t D d.alternative → found_is d.found ≡ element_of D → IsDueInRows t node n d
in-row t node n row D d slot h a from b is =
    subst (λ x. elim x as (λ _. Type 0) [ AtRow r ↦ IsRowDue t node n r d.alternative d.found | _ ↦ ⊥ ]) (sym slot) (row-due t node n row D d.alternative d.found h a from b is)

either-due : (t : Tag) (p : PartId) (node : NodeId) (b : Bool) (D : next.Due) → same_tag t sequence_tag ≡ b → due profile_two t (next.either (wrapped p node)) ≡ Some D
    → (elim b as (λ _. Option next.Due) [ true ↦ due_in profile_two t (wrapped p node ∷ []) | false ↦ due_in profile_two t (components profile_two node) ]) ≡ Some D
either-due t p node b D e h =
    ap (λ x. elim x as (λ _. Option next.Due) [ true ↦ due_in profile_two t (wrapped p node ∷ []) | false ↦ due_in profile_two t (components profile_two node) ]) (sym e) ∙ h

-- in an explicit tag round a sequence
round-sequence : (t : Tag) (p : PartId) (node : NodeId) (strict : Bool) (at row : ℕ) (s : EntryRole) (D : next.Due) (d : DueEntry) → kind_of node ≡ Kind.Seq → is_strict node ≡ strict
    → IsPlaced t Kind.Seq p node 0 at row s D → BeginsDue t D d.alternative → d.slot ≡ slot_as row s → found_is d.found ≡ element_of D → IsDueIn t (shape_around strict (record { part = p; node = node })) d
round-sequence t p node true at row s D d e strict h b slot is =
    around t p node at row Kind.Seq s D d refl (subst (λ x. due profile_two t (cells.around x (wrapped p node)) ≡ Some D) strict h.is) (h.passed refl) h.placed slot b is
round-sequence t p node false zero row cell.Inner D d e strict h b slot is =
    let due_there = subst (λ x. due profile_two t (cells.around x (wrapped p node)) ≡ Some D) strict h.is in
    let i = h.inner refl in
    let tag = sequence-due t i.0 node d.alternative i.1 e (let x = begins-due t (wrapped i.0 node) i.1 (rows []) D d.alternative i.2 b in subst (λ y. Begins t (wrapped i.0 node) d.alternative y) (ap element_of i.2) x) in
    inl (tag, inner-due t (record { part = p; node = node }) D d (either-due t p node true D tag due_there) b slot is)
round-sequence t p node false (suc r) row cell.Row D d e strict h b slot is =
    let due_there = subst (λ x. due profile_two t (cells.around x (wrapped p node)) ≡ Some D) strict h.is in
    let apart : element_with t (starts profile_two (wrapped p node)) ≡ None = h.passed refl (λ z. cc) in
    let tag = sequence-with t node None (ap (element_with t) (sym (sequence_starts node e)) ∙ apart) in
    inr (tag, in-row t node 0 row D d slot (either-due t p node false D tag due_there) (h.at_row refl) (omega arith) b is)
round-sequence t p node false zero row _ D d e strict h b slot is = absurd (let z : false ≡ true = h.placed in cc)
round-sequence t p node false (suc zero) row _ D d e strict h b slot is = absurd (let z : false ≡ true = h.placed in cc)
round-sequence t p node false (suc (suc r)) row _ D d e strict h b slot is = absurd (let z : false ≡ true = h.placed in cc)

-- round the root of a foreign tree, and in an element of one
round-root : (t : Tag) (p : PartId) (node : NodeId) (at row : ℕ) (s : EntryRole) (D : next.Due) (d : DueEntry) → kind_of node ≡ Kind.Any
    → IsPlaced t Kind.Any p node 0 at row s D → BeginsDue t D d.alternative → d.slot ≡ slot_as row s → found_is d.found ≡ element_of D → IsDueIn t (Root (record { part = p; node = node })) d
round-root t p node zero row cell.Root D d e h b slot is = (e, foreign-due t (foreign_levels - 1) (rows []) Inside D d (let q = h.is in cc) b slot is)
round-root t p node zero row cell.Inner D d e h b slot is = (e, foreign-due t (foreign_levels - 1) (rows []) Inside D d (let q = h.is in cc) b slot is)
round-root t p node zero row _ D d e h b slot is = absurd (let z : false ≡ true = h.placed in cc)
round-root t p node (suc n) row s D d e h b slot is = absurd (let z : suc n ≡ 0 = h.stays refl in cc)

in-foreign : (t : Tag) (p : PartId) (node : NodeId) (at row : ℕ) (s : EntryRole) (D : next.Due) (d : DueEntry)
    → IsPlaced t Kind.Any p node 1 at row s D → BeginsDue t D d.alternative → d.slot ≡ slot_as row s → found_is d.found ≡ element_of D → IsDueIn t (Foreigns (levels_in p)) d
in-foreign t p node (suc zero) row cell.Foreign D d h b slot is = go (levels_in p) h.is
  where
    go : (n : ℕ) → due profile_two t (next.foreigns n) ≡ Some D → IsDueIn t (Foreigns n) d
    go zero q = absurd (let z : None ≡ Some D = q in cc)
    go (suc n) q = foreign-due t n (next.foreigns (suc n)) InForeign D d (let z : Some (any n (next.foreigns (suc n))) ≡ Some D = q in cc) b slot is
in-foreign t p node (suc zero) row _ D d h b slot is = absurd (let z : false ≡ true = h.placed in cc)
in-foreign t p node zero row s D d h b slot is = absurd (let z : 0 ≡ 1 = h.stays refl in cc)
in-foreign t p node (suc (suc n)) row s D d h b slot is = absurd (let z : suc (suc n) ≡ 1 = h.stays refl in cc)

in-leaf : (t : Tag) (l : LeafKind) (D : next.Due) (d : DueEntry) → due profile_two t (next.segments (cells.segments_in (Kind.Leaf l))) ≡ Some D → d.slot ≡ InString → found_is d.found ≡ element_of D
    → IsDueIn t (shape_in l) d
in-leaf t LeafKind.BitString D d h slot is = segment-due (segment_tag bit_string) t D d h slot is
in-leaf t _ D d h slot is = segment-due octet_string t D d h slot is

-- what the cells find is due by the decoder's words
pub placed-due : (t : Tag) (k : Kind) (p : PartId) (node : NodeId) (position at row : ℕ) (s : EntryRole) (D : next.Due) (d : DueEntry) → kind_of node ≡ k → IsPlaced t k p node position at row s D
    → BeginsDue t D d.alternative → d.slot ≡ slot_as row s → found_is d.found ≡ element_of D → IsDueIn t (shape_of k p node position) d
placed-due t Kind.Seq p node zero at row s D d e h b slot is = round-sequence t p node (is_strict node) at row s D d e refl h b slot is
placed-due t Kind.Seq p node (suc n) zero row s D d e h b slot is = absurd (omega (arith, h.later))
placed-due t Kind.Seq p node (suc n) (suc r) row cell.Row D d e h b slot is = in-row t node n row D d slot h.is (h.at_row refl) (omega (arith, h.later, h.number)) b is
placed-due t Kind.Seq p node (suc n) (suc zero) row _ D d e h b slot is = absurd (let z : false ≡ true = h.placed in cc)
placed-due t Kind.Seq p node (suc n) (suc (suc r)) row _ D d e h b slot is = absurd (let z : false ≡ true = h.placed in cc)
placed-due t Kind.SeqOf p node zero at row s D d e h b slot is = around t p node at row Kind.SeqOf s D d refl h.is (h.passed refl) h.placed slot b is
placed-due t Kind.Choice p node zero at row s D d e h b slot is = around t p node at row Kind.Choice s D d refl h.is (h.passed refl) h.placed slot b is
placed-due t (Kind.Leaf l) p node zero at row s D d e h b slot is = around t p node at row (Kind.Leaf l) s D d refl h.is (h.passed refl) h.placed slot b is
placed-due t Kind.IllString p node zero at row s D d e h b slot is = around t p node at row Kind.IllString s D d refl h.is (h.passed refl) h.placed slot b is
placed-due t Kind.Any p node zero at row s D d e h b slot is = round-root t p node at row s D d e h b slot is
placed-due t Kind.SeqOf p node (suc zero) at row s D d e h b slot is = item-due t node D d h.is b (slot ∙ ap (slot_as row) (only-item at s h.later h.placed)) is
placed-due t (Kind.Leaf l) p node (suc zero) at row s D d e h b slot is = in-leaf t l D d h.is (slot ∙ ap (slot_as row) (only-segment (Kind.Leaf l) at s refl h.later h.placed)) is
placed-due t Kind.IllString p node (suc zero) at row s D d e h b slot is = segment-due octet_string t D d h.is (slot ∙ ap (slot_as row) (only-segment Kind.IllString at s refl h.later h.placed)) is
placed-due t Kind.Any p node (suc zero) at row s D d e h b slot is = in-foreign t p node at row s D d h b slot is
placed-due t Kind.Choice p node (suc zero) at row s D d e h b slot is = absurd (let z : None ≡ Some D = h.is in cc)
placed-due t _ p node (suc (suc n)) at row s D d e h b slot is = absurd (let z : None ≡ Some D = h.is in cc)

-- what may come after what is found
abbrev after-shape : Kind → PartId → NodeId → ℕ → EntryRole → Next
after-shape k q node at s = elim s as (λ _. Next) [ cell.Row ↦ shape_of k q node (at + 1) | cell.Inner ↦ Nothing | cell.Root ↦ Nothing | _ ↦ shape_of k q node at ]

pub after-found : (f : CellFound) (s : EntryRole) (node : NodeId) → node_at f.at ≡ node → shape_at (place_after f s) ≡ after-shape (kind_of node) (part_in f.at) node f.at.position s
after-found f cell.Row node e = ap (λ n. shape_of (kind_of n) (part_in f.at) n (f.at.position + 1)) e
after-found f cell.Inner node e = refl
after-found f cell.Root node e = refl
after-found f _ node e = ap (λ n. shape_of (kind_of n) (part_in f.at) n f.at.position) e

after-row : (q : PartId) (node : NodeId) (r row : ℕ) → row ≡ r → shape_of Kind.Seq q node (suc r + 1) ≡ Rows node (row + 1)
after-row q node r row e = let z : suc r + 1 ≡ suc (row + 1) = omega (arith, e) in ap (shape_of Kind.Seq q node) z

-- in a wrapper nothing but its component is due
wrapper-only : (t : Tag) (p : PartId) (node : NodeId) (D : next.Due) (n : ℕ) → due_in profile_two t (wrapped p node ∷ []) ≡ Some D
    → ((suc n ≡ 0 → ⊥) → element_with t (starts profile_two (wrapped p node)) ≡ None) → ⊥
wrapper-only t p node D n h passed = none-due t (wrapped p node) D refl (passed (λ z. cc)) h

-- after what comes in an explicit tag round a sequence
around-behind : (w : Wrapped) (strict : Bool) → behind (shape_around strict w) Inside ≡ Nothing
around-behind w true = refl
around-behind w false = refl

around-row : (t : Tag) (p q : PartId) (node : NodeId) (strict : Bool) (r row : ℕ) (D : next.Due) → is_strict node ≡ strict → IsPlaced t Kind.Seq p node 0 (suc r) row cell.Row D
    → Rows node (row + 1) ≡ behind (shape_around strict (record { part = p; node = node })) (AtRow row)
around-row t p q node true r row D strict h =
    absurd (wrapper-only t p node D r (subst (λ x. due profile_two t (cells.around x (wrapped p node)) ≡ Some D) strict h.is) (h.passed refl))
around-row t p q node false r row D strict h = refl

-- more of the same comes in a leaf
leaf-behind : (l : LeafKind) (s : Slot) → shape_in l ≡ behind (shape_in l) s
leaf-behind LeafKind.BitString s = refl
leaf-behind _ s = refl

pub after-is : (t : Tag) (k : Kind) (p q : PartId) (node : NodeId) (position at row : ℕ) (s : EntryRole) (D : next.Due) → (k ≡ Kind.Any → q ≡ p) → IsPlaced t k p node position at row s D
    → after-shape k q node at s ≡ behind (shape_of k p node position) (slot_as row s)
after-is t Kind.Seq p q node zero (suc r) row cell.Row D same h = after-row q node r row h.number ∙ around-row t p q node (is_strict node) r row D refl h
after-is t Kind.Seq p q node (suc n) (suc r) row cell.Row D same h = after-row q node r row h.number
after-is t k p q node position zero row cell.Row D same h = absurd (let z : false ≡ true = h.placed in cc)
after-is t k p q node (suc n) zero row cell.Inner D same h = absurd (omega (arith, h.later))
after-is t k p q node position (suc r) row cell.Inner D same h = absurd (let z : false ≡ true = h.placed in cc)
after-is t Kind.SeqOf p q node zero (suc zero) row cell.Item D same h = absurd (wrapper-only t p node D 0 h.is (h.passed refl))
after-is t Kind.SeqOf p q node (suc zero) (suc zero) row cell.Item D same h = refl
after-is t Kind.SeqOf p q node (suc (suc n)) (suc zero) row cell.Item D same h = absurd (omega (arith, h.later))
after-is t k p q node position zero row cell.Item D same h = absurd (let z : false ≡ true = h.placed in cc)
after-is t k p q node position (suc (suc n)) row cell.Item D same h = absurd (let z : false ≡ true = h.placed in cc)
after-is t (Kind.Leaf l) p q node zero (suc zero) row cell.Segment D same h = absurd (wrapper-only t p node D 0 h.is (h.passed refl))
after-is t (Kind.Leaf l) p q node (suc zero) (suc zero) row cell.Segment D same h = leaf-behind l InString
after-is t (Kind.Leaf l) p q node (suc (suc n)) (suc zero) row cell.Segment D same h = absurd (omega (arith, h.later))
after-is t Kind.IllString p q node zero (suc zero) row cell.Segment D same h = absurd (wrapper-only t p node D 0 h.is (h.passed refl))
after-is t Kind.IllString p q node (suc zero) (suc zero) row cell.Segment D same h = refl
after-is t Kind.IllString p q node (suc (suc n)) (suc zero) row cell.Segment D same h = absurd (omega (arith, h.later))
after-is t k p q node position zero row cell.Segment D same h = absurd (let z : false ≡ true = h.placed in cc)
after-is t k p q node position (suc (suc n)) row cell.Segment D same h = absurd (let z : false ≡ true = h.placed in cc)
after-is t Kind.Any p q node zero zero row cell.Root D same h = refl
after-is t Kind.Any p q node (suc n) zero row cell.Root D same h = absurd (omega (arith, h.later))
after-is t k p q node position (suc r) row cell.Root D same h = absurd (let z : false ≡ true = h.placed in cc)
after-is t Kind.Any p q node zero (suc zero) row cell.Foreign D same h = absurd (let z : 1 ≡ 0 = h.stays refl in cc)
after-is t Kind.Any p q node (suc zero) (suc zero) row cell.Foreign D same h = ap (λ x. Foreigns (levels_in x)) (same refl)
after-is t Kind.Any p q node (suc (suc n)) (suc zero) row cell.Foreign D same h = absurd (omega (arith, h.later))
after-is t k p q node position zero row cell.Foreign D same h = absurd (let z : false ≡ true = h.placed in cc)
after-is t k p q node position (suc (suc n)) row cell.Foreign D same h = absurd (let z : false ≡ true = h.placed in cc)
after-is t _ p q node position (suc r) row cell.Row D same h = absurd (let z : false ≡ true = h.placed in cc)
after-is t Kind.Seq p q node zero zero row cell.Inner D same h = sym (around-behind (record { part = p; node = node }) (is_strict node))
after-is t _ p q node zero zero row cell.Inner D same h = refl
after-is t _ p q node position (suc zero) row cell.Item D same h = absurd (let z : false ≡ true = h.placed in cc)
after-is t _ p q node position (suc zero) row cell.Segment D same h = absurd (let z : false ≡ true = h.placed in cc)
after-is t _ p q node position zero row cell.Root D same h = absurd (let z : false ≡ true = h.placed in cc)
after-is t _ p q node position (suc zero) row cell.Foreign D same h = absurd (let z : false ≡ true = h.placed in cc)

leaf-shape : (p : PartId) (node : NodeId) (k : Kind) → (cells.is_leaf k && not (cells.has_bit_segments k)) ≡ true → shape_of k p node 1 ≡ Segments
leaf-shape p node (Kind.Leaf LeafKind.BitString) h = absurd cc
leaf-shape p node (Kind.Leaf _) h = refl
leaf-shape p node Kind.IllString h = refl
leaf-shape p node _ h = absurd cc

bits-shape : (p : PartId) (node : NodeId) (k : Kind) → cells.has_bit_segments k ≡ true → shape_of k p node 1 ≡ BitSegments
bits-shape p node (Kind.Leaf LeafKind.BitString) h = refl
bits-shape p node (Kind.Leaf _) h = absurd cc
bits-shape p node _ h = absurd cc

any-shape : (p : PartId) (node : NodeId) (k : Kind) → cells.is_any k ≡ true → shape_of k p node 1 ≡ Foreigns (levels_in p)
any-shape p node Kind.Any h = refl
any-shape p node _ h = absurd cc

sequence-shape : (p : PartId) (node : NodeId) (k : Kind) → cells.is_sequence k ≡ true → shape_of k p node 1 ≡ Rows node 0
sequence-shape p node Kind.Seq h = refl
sequence-shape p node _ h = absurd cc

loose-shape : (p : PartId) (node : NodeId) (k : Kind) → (cells.is_sequence k && not (is_strict node)) ≡ true → shape_of k p node 0 ≡ Either (record { part = p; node = node })
loose-shape p node Kind.Seq h = go (is_strict node) h
  where
    go : (b : Bool) → not b ≡ true → shape_around b (record { part = p; node = node }) ≡ Either (record { part = p; node = node })
    go true h = absurd cc
    go false h = refl
loose-shape p node _ h = absurd cc

list-shape : (p : PartId) (node : NodeId) (k : Kind) → cells.is_list k ≡ true → shape_of k p node 1 ≡ Items node
list-shape p node Kind.SeqOf h = refl
list-shape p node _ h = absurd cc

abbrev first-round : Wrapped → Kind → Next
first-round w k = elim k as (λ _. Next) [ Kind.Any ↦ Root w | _ ↦ Inner w ]

wrapper-shape : (p : PartId) (node : NodeId) (k : Kind) → is_wrapped (is_strict node) k ≡ true → shape_of k p node 0 ≡ first-round (record { part = p; node = node }) k
wrapper-shape p node Kind.Seq h = ap (λ b. shape_around b (record { part = p; node = node })) h
wrapper-shape p node _ h = refl

-- where what is found begins inside
pub begins-at : (w : ElementType) (p : PartId) (node : NodeId) → IsTrue (opens_in w node) → BeginsAt (found_as p node w) (record { part = p; node = node; position = cells.first_position w })
begins-at element_type.Sequence p node h = sequence-shape p node (kind_of node) h
begins-at element_type.LooseWrapper p node h = loose-shape p node (kind_of node) h
begins-at element_type.List p node h = list-shape p node (kind_of node) h
begins-at element_type.Wrapper p node h = wrapper-shape p node (kind_of node) h
begins-at element_type.LeftOut p node h = tt
begins-at element_type.BitString p node h = bits-shape p node (kind_of node) h
begins-at element_type.BitSegment p node h = bits-shape p node (kind_of node) h
begins-at element_type.Foreign p node h = any-shape p node (kind_of node) h
begins-at _ p node h = leaf-shape p node (kind_of node) h

-- what comes in what is found when it opens
pub opens-by : (w : ElementType) (p : PartId) (node : NodeId) → next_is (first_of (element_as p node w)) ≡ next.opening profile_two (element_is (element_as p node w))
opens-by (element_type.Leaf l) p node = ap next.segments (sym (read_segments l))
opens-by (element_type.ModuleLeaf l) p node = ap next.segments (sym (module_segments l))
opens-by element_type.Wrapper p node = go (kind_of node)
  where
    go : (k : Kind) → next_is (first-round (record { part = p; node = node }) k) ≡ elim k as (λ _. next.Next) [ Kind.Any ↦ next.anything (wrapped p node) | _ ↦ rows (wrapped p node ∷ []) ]
    go Kind.Any = refl
    go _ = refl
opens-by _ p node = refl

-- what is found, by the definitions
pub found-means : (w : ElementType) (p : PartId) (node : NodeId) → found_is (found_as p node w) ≡ cells.element_in p node w
found-means (element_type.Leaf l) p node = refl
found-means _ p node = refl

-- what is found at a place is placed there
pub found-placed : (t : Tag) (a : Place) (f : CellFound) → IsDueWithTag t a f → IsPlaced t (kind_of (node_at a)) (part_in a) (node_at a) a.position f.at.position (row_of f) (slot_of f) (due_of f)
found-placed t a f h = record {
  is = h.is;
  later = h.later;
  passed = h.passed;
  placed = subst (λ n. cells.is_placed (kind_of n) f.at.position (slot_of f) ≡ true) h.parent h.placed;
  at_row = λ s. subst (λ n. IsAtRow n (row_of f) (due_of f)) h.parent (h.row s);
  number = refl;
  inner = λ s. (
    (part_in f.at),
    element_found f,
    ap (λ x. cells.due_at (part_in f.at) (node_at f.at) f.at.position x (element_found f)) s ∙ ap (λ n. part (wrapped (part_in f.at) n) (element_found f) (rows [])) h.parent,
  );
  stays = λ any. ap (λ (w : PlaceView). w.position) (h.stays any);
}

-- what may come next by the cells may by the decoder's words
pub shape-next : (a : Place) → next_at a ≡ next_is (shape a)
shape-next a = go (kind_of (node_at a)) a.position
  where
    either : (b : Bool) → cells.around b (wrapped (part_in a) (node_at a)) ≡ next_is (shape_around b (record { part = part_in a; node = node_at a }))
    either true = refl
    either false = refl

    go : (k : Kind) (n : ℕ) → cells.next_of_kind k (part_in a) (node_at a) n ≡ next_is (shape_of k (part_in a) (node_at a) n)
    go Kind.Seq zero = either (is_strict (node_at a))
    go Kind.Seq (suc row) = refl
    go (Kind.Leaf LeafKind.BitString) (suc zero) = refl
    go (Kind.Leaf _) (suc zero) = refl
    go _ zero = refl
    go _ (suc zero) = refl
    go _ (suc (suc n)) = refl

-- what the cells find is due by the decoder's words
pub is-coming : (t : Tag) (a : Place) (f : CellFound) → IsDueWithTag t a f → IsComing t a f
is-coming t a f h =
    let k = kind_of (node_at a) in
    let placed = found-placed t a f h in
    let element = element-due (part_in f.at) (node_at f.at) f.at.position (slot_of f) (element_found f) in
    record {
      is_due = placed-due t k (part_in a) (node_at a) a.position f.at.position (row_of f) (slot_of f) (due_of f) (due_as f) refl placed h.begins refl (found-means (type_of f) (part_of f) (node_of f) ∙ sym element);
      after = after-found f (slot_of f) (node_at a) h.parent ∙ after-is t k (part_in a) (part_in f.at) (node_at a) a.position f.at.position (row_of f) (slot_of f) (due_of f) (λ any. ap (λ (w : PlaceView). w.part) (h.stays any)) placed;
    }
