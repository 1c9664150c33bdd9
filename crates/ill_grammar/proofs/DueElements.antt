-- What is due by the decoder's words is due by the definitions.
use Rattle.std.proofs.Common.{◌≡◌, ℕ, zero, suc, ◌+◌, ◌-◌, Bool, true, false, List, [], ◌∷◌, drop, Option, Some, None, option_map, refl, sym, ap, ap₂, ◌∙◌, arith, inl, inr, if◌then◌else◌, slice_get}
use Rattle.ber_tree.specs.Identifier.{Tag}
use Rattle.ber_core.specs.Foreign.{foreign_levels}
use Rattle.ber_tree.specs.Tree.{octet_string}
use Rattle.ber_leaf.specs.Leaf.{bit_string}
use Rattle.ber_leaf.specs.Segments.{segment_tag}
use Rattle.ber_leaf.specs.Profile.{profile_two}
use Rattle.ill_tables.specs.declared.node.NodeId.{NodeId}
use Rattle.ill_tables.specs.declared.part.Presence.{Presence}
use Rattle.ill_tables.specs.declared.part.Row.{Row}
use Rattle.ill_tables.specs.Table.{rows_of}
use Rattle.ill_refusals.specs.Element.{Component, Element, Start, components, components_from, list, starts}
use Rattle.ill_refusals.specs.Next as next
use Rattle.ill_refusals.specs.Next.{part, octets, any, rows, items, foreigns, element_of, next_of, due, due_in, is_last, opening, start_of}
use Rattle.ill_grammar.specs.Elements.{component_of, component_at, element_with, found_is}
use Rattle.ill_grammar.specs.Due.{IsDueIn, IsDueInRows, IsRowDue, IsInnerDue, next_is, behind}
use Rattle.ill_grammar.specs.Due.{DueEntry}
use Rattle.ill_grammar.specs.declared.due.Slot.{Slot}
use Rattle.ill_grammar.specs.declared.due.Slot.TheVariants.{Row as AtRow}
use Rattle.ill_grammar.specs.declared.due.Next.{Next}
use Rattle.ill_grammar.specs.declared.due.Next.TheVariants.{Rows, Inner, Items, Either, Segments, BitSegments, Root, Foreigns, Nothing}
use Rattle.ill_grammar.specs.declared.element.Wrapped.{Wrapped}

here : (node : NodeId) (k i : ℕ) (rs : List Row) (row : Row) → slice_get rs i ≡ Some row
    → drop i (components_from profile_two node k rs) ≡ component_at (record { node = node; row = k + i }) row ∷ drop (i + 1) (components_from profile_two node k rs)
here node k zero [] row e = absurd cc
here node k zero (r ∷ rs) row e =
    let g : r ≡ row = cc in
    let z : k ≡ k + zero = omega arith in
    ap₂ (λ (m : ℕ) (x : Row). component_at (record { node = node; row = m }) x ∷ components_from profile_two node (k + 1) rs) z g
here node k (suc i) [] row e = absurd cc
here node k (suc i) (r ∷ rs) row e =
    let z : k + 1 + i ≡ k + suc i = omega arith in
    let n : suc (i + 1) ≡ suc i + 1 = omega arith in
    here node (k + 1) i rs row e
    ∙ ap₂ (λ (m d : ℕ). component_at (record { node = node; row = m }) row ∷ drop d (components_from profile_two node k (r ∷ rs))) z n

-- the component of a row, and those after it
pub components-at : (node : NodeId) (i : ℕ) (row : Row) → slice_get (rows_of node) i ≡ Some row
    → drop i (components profile_two node) ≡ component_at (record { node = node; row = i }) row ∷ drop (i + 1) (components profile_two node)
components-at node i row e =
    let z : 0 + i ≡ i = omega arith in
    here node 0 i (rows_of node) row e ∙ ap (λ (m : ℕ). component_at (record { node = node; row = m }) row ∷ drop (i + 1) (components profile_two node)) z

-- what due_in returns for a component before others
abbrev pub first_due : Tag → Component → List Component → Option Start → Option next.Due
first_due t c cs o = elim o as (λ _. Option next.Due) [
  | Some s ↦ Some (part c s.element (rows cs))
  | None ↦ elim c.presence as (λ _. Option next.Due) [ Presence.Must ↦ None | _ ↦ due_in profile_two t cs ]
]

-- the first component begins with the tag
pub due_in-found : (t : Tag) (c : Component) (cs : List Component) (e : Element) → element_with t (starts profile_two c) ≡ Some e → due_in profile_two t (c ∷ cs) ≡ Some (part c e (rows cs))
due_in-found t c cs e h = at (start_of profile_two t c) h
  where
    at : (o : Option Start) → option_map (λ (s : Start). s.element) o ≡ Some e → first_due t c cs o ≡ Some (part c e (rows cs))
    at None k = absurd cc
    at (Some s) k = let q : s.element ≡ e = cc in ap (λ x. Some (part c x (rows cs))) q

-- what comes in a list
pub items-at : (node : NodeId) (row : Row) → slice_get (rows_of node) 0 ≡ Some row → opening profile_two (list node) ≡ items (component_at (record { node = node; row = 0 }) row)
items-at node row h = ap (λ cs. elim cs as (λ _. next.Next) [ [] ↦ rows [] | c ∷ _ ↦ items c ]) (components-at node 0 row h)

-- where something is due, more levels may follow in a foreign tree
pub due_more : (t : Tag) (n : Next) (d : DueEntry) → IsDueIn t n d → is_last (next_is n) ≡ false
due_more t (Items node) d h = at (components profile_two node)
  where
    at : (cs : List Component) → is_last (elim cs as (λ _. next.Next) [ [] ↦ rows [] | c ∷ _ ↦ items c ]) ≡ false
    at [] = refl
    at (c ∷ cs) = refl
due_more t (Foreigns zero) d h = absurd h
due_more t (Foreigns (suc n)) d h = refl
due_more t _ d h = refl

-- an element that is due, and what may come after it
abbrev Answer : Option next.Due → Element → next.Next → Type 0
Answer o e n = (D : next.Due) × (o ≡ Some D) × (element_of D ≡ e) × (next_of D ≡ n)

item-found : (t : Tag) (c : Component) (e : Element) → element_with t (starts profile_two c) ≡ Some e → due profile_two t (items c) ≡ Some (part c e (items c))
item-found t c e h = at (start_of profile_two t c) h
  where
    at : (o : Option Start) → option_map (λ (s : Start). s.element) o ≡ Some e → (elim o as (λ _. Option next.Due) [ Some s ↦ Some (part c s.element (items c)) | None ↦ None ]) ≡ Some (part c e (items c))
    at None k = absurd cc
    at (Some s) k = let q : s.element ≡ e = cc in ap (λ x. Some (part c x (items c))) q

in_rows : (t : Tag) (node : NodeId) (n : ℕ) (d : DueEntry) → IsDueInRows t node n d
    → (r : ℕ) × (d.slot ≡ AtRow r) × Answer (due_in profile_two t (drop n (components profile_two node))) (found_is d.found) (next_is (Rows node (r + 1)))
in_rows t node n d h = go d.slot h
  where
    go : (s : Slot) → (elim s as (λ _. Type 0) [ AtRow r ↦ IsRowDue t node n r d.alternative d.found | _ ↦ ⊥ ])
        → (r : ℕ) × (s ≡ AtRow r) × Answer (due_in profile_two t (drop n (components profile_two node))) (found_is d.found) (next_is (Rows node (r + 1)))
    go (AtRow r) k = (r, refl, (part (component_at (record { node = node; row = r }) k.row) (found_is d.found) (rows (drop (r + 1) (components profile_two node))), k.is, refl, refl))
    go _ k = absurd k

inside : (t : Tag) (w : Wrapped) (d : DueEntry) → IsInnerDue t w d → Answer (due_in profile_two t (component_of w ∷ [])) (found_is d.found) (next_is Nothing)
inside t w d h = (part (component_of w) (found_is d.found) (rows []), due_in-found t (component_of w) [] (found_is d.found) h.begun.is, refl, refl)

-- the element that is due, and what may come after it
pub due_element_is : (t : Tag) (n : Next) (d : DueEntry) → IsDueIn t n d
    → (D : next.Due) × (due profile_two t (next_is n) ≡ Some D) × (element_of D ≡ found_is d.found) × (next_of D ≡ next_is (behind n d.slot))
due_element_is t (Rows node n) d h =
    let a = in_rows t node n d h in
    (a.2.0, a.2.1, a.2.2, a.2.3 ∙ ap (λ s. next_is (behind (Rows node n) s)) (sym a.1))
due_element_is t (Inner w) d h =
    let a = inside t w d h in
    (a.0, a.1, a.2, a.3 ∙ ap (λ s. next_is (behind (Inner w) s)) (sym h.slot))
due_element_is t (Items node) d h =
    let c : Component = component_at (record { node = node; row = 0 }) h.row in
    let e = items-at node h.row h.is_row in
    (part c (found_is d.found) (items c), ap (due profile_two t) e ∙ item-found t c (found_is d.found) h.begun.is, refl, sym e ∙ ap (λ s. next_is (behind (Items node) s)) (sym h.slot))
due_element_is t (Either w) d (inl h) =
    let a = inside t w d h.1 in
    let e = ap (λ b. elim b as (λ _. Option next.Due) [ true ↦ due_in profile_two t (component_of w ∷ []) | false ↦ due_in profile_two t (components profile_two w.node) ]) h.0 in
    (a.0, e ∙ a.1, a.2, a.3 ∙ ap (λ s. next_is (behind (Either w) s)) (sym h.1.slot))
due_element_is t (Either w) d (inr h) =
    let a = in_rows t w.node 0 d h.1 in
    let e = ap (λ b. elim b as (λ _. Option next.Due) [ true ↦ due_in profile_two t (component_of w ∷ []) | false ↦ due_in profile_two t (components profile_two w.node) ]) h.0 in
    (a.2.0, e ∙ a.2.1, a.2.2, a.2.3 ∙ ap (λ s. next_is (behind (Either w) s)) (sym a.1))
due_element_is t Segments d h =
    (octets octet_string, ap (λ (b : Bool). if b then Some (octets octet_string) else None) h.tag, sym h.found, ap (λ s. next_is (behind Segments s)) (sym h.slot))
due_element_is t BitSegments d h =
    let u = segment_tag bit_string in
    (octets u, ap (λ (b : Bool). if b then Some (octets u) else None) h.tag, sym h.found, ap (λ s. next_is (behind BitSegments s)) (sym h.slot))
due_element_is t (Root w) d h = (any (foreign_levels - 1) (rows []), refl, sym h.1.found, ap (λ s. next_is (behind (Root w) s)) (sym h.1.slot))
due_element_is t (Foreigns zero) d h = absurd h
due_element_is t (Foreigns (suc n)) d h = (any n (foreigns (suc n)), refl, sym h.found, ap (λ s. next_is (behind (Foreigns (suc n)) s)) (sym h.slot))
due_element_is t Nothing d h = absurd h
