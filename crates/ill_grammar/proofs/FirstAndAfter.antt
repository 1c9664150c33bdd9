-- Where an element begins inside, and what comes after it.
use Rattle.std.proofs.Common.{◌≡◌, ℕ, zero, suc, ◌+◌, Bool, true, false, ◌&&◌, not, IsTrue, List, [], ◌∷◌, drop, None, refl, sym, ap, ◌∙◌, arith}
use Rattle.std.proofs.lemmas.Bool.{and_parts}
use Rattle.std.specs.Prelude.{if◌then◌else◌}
use Rattle.ber_tree.specs.Identifier.{Tag}
use Rattle.ber_tree.specs.Tree.{octet_string}
use Rattle.ber_leaf.specs.Leaf.{bit_string}
use Rattle.ber_leaf.specs.Profile.{profile_two}
use Rattle.ber_leaf.specs.Segments.{segment_tag}
use Rattle.ill_tables.specs.declared.node.Kind.{Kind}
use Rattle.ill_tables.specs.declared.node.LeafKind.{LeafKind}
use Rattle.ill_tables.specs.declared.node.NodeId.{NodeId}
use Rattle.ill_tables.specs.declared.part.PartId.{PartId}
use Rattle.ill_tables.specs.declared.part.Presence.{Presence}
use Rattle.ill_tables.specs.Table.{kind_of}
use Rattle.ill_schema.specs.Tagging.{same_tag}
use Rattle.ill_refusals.specs.Element.{Component, components, Element, leaf, sequence, list, wrapper, loose_wrapper, segment, foreign, left_out}
use Rattle.ill_refusals.specs.Next.{Next, rows, items, either, segments, anything, foreigns, part, octets, element_of, next_of, opening}
use Rattle.ill_grammar.specs.Cells.{around, default_due, due_at, due_foreign, due_item, due_row, due_segment, element_in, first_position, is_any, has_bit_segments, is_leaf, is_list, is_placed, is_sequence, is_strict, levels_in, next_from, next_of_kind, presence_default, segments_in, wrapped}
use Rattle.ill_grammar.specs.code.Meant.{default_at, default_first, is_empty_sequence, is_wrapped, opens, opens_in}
use Rattle.ill_grammar.specs.declared.cell.ElementType.{ElementType}
use Rattle.ill_grammar.specs.declared.cell.ElementType.TheVariants as element_type
use Rattle.ill_grammar.specs.declared.cell.EntryRole.{EntryRole}
use Rattle.ill_grammar.specs.declared.cell.EntryRole.TheVariants as slot
use Rattle.ill_refusals.proofs.Rows.{same_tag-is}
use Rattle.ill_grammar.proofs.ReadLeaves.{module_segments, read_segments}
use Rattle.ill_grammar.proofs.Scanning.{drop-next}

row-element : (other : Component) (e : Element) (cs : List Component) → element_of (due_row other e cs) ≡ e
row-element other e [] = refl
row-element other e (c ∷ cs) = refl

item-element : (other : Component) (e : Element) (cs : List Component) → element_of (due_item other e cs) ≡ e
item-element other e [] = refl
item-element other e (c ∷ cs) = refl

segment-element : (tag : Tag) (other : Component) (e : Element) → element_of (due_segment tag other e) ≡ e
segment-element tag other (segment t) = go (same_tag t tag)
  where
    go : (b : Bool) → element_of (if b then octets t else part other (segment t) (segments tag)) ≡ segment t
    go true = refl
    go false = refl
segment-element tag other (leaf l) = refl
segment-element tag other (sequence n) = refl
segment-element tag other (list n) = refl
segment-element tag other (wrapper c) = refl
segment-element tag other (loose_wrapper c) = refl
segment-element tag other (left_out p) = refl
segment-element tag other (foreign n) = refl

segment-next : (tag : Tag) (other : Component) (e : Element) → next_of (due_segment tag other e) ≡ segments tag
segment-next tag other (segment t) = go (same_tag t tag) refl
  where
    go : (b : Bool) → same_tag t tag ≡ b → next_of (if b then octets t else part other (segment t) (segments tag)) ≡ segments tag
    go true h = ap segments (same_tag-is t tag h)
    go false h = refl
segment-next tag other (leaf l) = refl
segment-next tag other (sequence n) = refl
segment-next tag other (list n) = refl
segment-next tag other (wrapper c) = refl
segment-next tag other (loose_wrapper c) = refl
segment-next tag other (left_out p) = refl
segment-next tag other (foreign n) = refl

foreign-element : (after : Next) (other : Component) (e : Element) → element_of (due_foreign after other e) ≡ e
foreign-element after other (leaf l) = refl
foreign-element after other (sequence n) = refl
foreign-element after other (list n) = refl
foreign-element after other (wrapper c) = refl
foreign-element after other (loose_wrapper c) = refl
foreign-element after other (segment t) = refl
foreign-element after other (left_out p) = refl
foreign-element after other (foreign n) = refl

foreign-next : (after : Next) (other : Component) (e : Element) → next_of (due_foreign after other e) ≡ after
foreign-next after other (leaf l) = refl
foreign-next after other (sequence n) = refl
foreign-next after other (list n) = refl
foreign-next after other (wrapper c) = refl
foreign-next after other (loose_wrapper c) = refl
foreign-next after other (segment t) = refl
foreign-next after other (left_out p) = refl
foreign-next after other (foreign n) = refl

-- what is due is the element
pub element-due : (p : PartId) (node : NodeId) (position : ℕ) (s : EntryRole) (e : Element) → element_of (due_at p node position s e) ≡ e
element-due p node position slot.Row e = row-element (wrapped p node) e _
element-due p node position slot.Inner e = refl
element-due p node position slot.Item e = item-element (wrapped p node) e _
element-due p node position slot.Segment e = segment-element (segments_in (kind_of node)) (wrapped p node) e
element-due p node position slot.Root e = foreign-element (rows []) (wrapped p node) e
element-due p node position slot.Foreign e = foreign-element (foreigns (levels_in p)) (wrapped p node) e

row-default : (other : Component) (e : Element) (cs : List Component) → other.presence ≡ Presence.Must → default_first cs ≡ default_due (due_row other e cs)
row-default other e [] h = ap presence_default (sym h)
row-default other e (c ∷ cs) h = refl

item-default : (other : Component) (e : Element) (cs : List Component) → other.presence ≡ Presence.Must → default_first cs ≡ default_due (due_item other e cs)
item-default other e [] h = ap presence_default (sym h)
item-default other e (c ∷ cs) h = refl

segment-default : (tag : Tag) (other : Component) (e : Element) → other.presence ≡ Presence.Must → None ≡ default_due (due_segment tag other e)
segment-default tag other (segment t) h = go (same_tag t tag)
  where
    go : (b : Bool) → None ≡ default_due (if b then octets t else part other (segment t) (segments tag))
    go true = refl
    go false = ap presence_default (sym h)
segment-default tag other (leaf l) h = ap presence_default (sym h)
segment-default tag other (sequence n) h = ap presence_default (sym h)
segment-default tag other (list n) h = ap presence_default (sym h)
segment-default tag other (wrapper c) h = ap presence_default (sym h)
segment-default tag other (loose_wrapper c) h = ap presence_default (sym h)
segment-default tag other (left_out p) h = ap presence_default (sym h)
segment-default tag other (foreign n) h = ap presence_default (sym h)

foreign-default : (after : Next) (other : Component) (e : Element) → other.presence ≡ Presence.Must → None ≡ default_due (due_foreign after other e)
foreign-default after other (leaf l) h = ap presence_default (sym h)
foreign-default after other (sequence n) h = ap presence_default (sym h)
foreign-default after other (list n) h = ap presence_default (sym h)
foreign-default after other (wrapper c) h = ap presence_default (sym h)
foreign-default after other (loose_wrapper c) h = ap presence_default (sym h)
foreign-default after other (segment t) h = ap presence_default (sym h)
foreign-default after other (left_out p) h = ap presence_default (sym h)
foreign-default after other (foreign n) h = refl

-- the default of what is due
pub default-due : (p : PartId) (node : NodeId) (position : ℕ) (s : EntryRole) (e : Element) → default_at node position s ≡ default_due (due_at p node position s e)
default-due p node position slot.Row e = row-default (wrapped p node) e _ refl
default-due p node position slot.Inner e = refl
default-due p node position slot.Item e = item-default (wrapped p node) e _ refl
default-due p node position slot.Segment e = segment-default (segments_in (kind_of node)) (wrapped p node) e refl
default-due p node position slot.Root e = foreign-default (rows []) (wrapped p node) e refl
default-due p node position slot.Foreign e = foreign-default (foreigns (levels_in p)) (wrapped p node) e refl

-- in a string there are segments
strings-first : (p : PartId) (node : NodeId) (k : Kind) → is_leaf k ≡ true → next_of_kind k p node 1 ≡ segments (segments_in k)
strings-first p node (Kind.Leaf l) h = refl
strings-first p node Kind.IllString h = refl
strings-first p node Kind.Seq h = absurd cc
strings-first p node Kind.SeqOf h = absurd cc
strings-first p node Kind.Choice h = absurd cc
strings-first p node Kind.Any h = absurd cc

octets-in : (k : Kind) → not (has_bit_segments k) ≡ true → segments_in k ≡ octet_string
octets-in (Kind.Leaf LeafKind.BitString) h = absurd cc
octets-in _ h = refl

bits-in : (k : Kind) → has_bit_segments k ≡ true → (is_leaf k ≡ true) × (segments_in k ≡ segment_tag bit_string)
bits-in (Kind.Leaf LeafKind.BitString) h = (refl, refl)
bits-in _ h = absurd cc

leaf-first : (p : PartId) (node : NodeId) (k : Kind) → (is_leaf k && not (has_bit_segments k)) ≡ true → next_of_kind k p node 1 ≡ segments octet_string
leaf-first p node k h = let both = and_parts (is_leaf k) _ h in strings-first p node k both.0 ∙ ap segments (octets-in k both.1)

bits-first : (p : PartId) (node : NodeId) (k : Kind) → has_bit_segments k ≡ true → next_of_kind k p node 1 ≡ segments (segment_tag bit_string)
bits-first p node k h = let b = bits-in k h in strings-first p node k b.0 ∙ ap segments b.1

any-first : (p : PartId) (node : NodeId) (k : Kind) → is_any k ≡ true → next_of_kind k p node 1 ≡ foreigns (levels_in p)
any-first p node Kind.Any h = refl
any-first p node (Kind.Leaf l) h = absurd cc
any-first p node Kind.IllString h = absurd cc
any-first p node Kind.Seq h = absurd cc
any-first p node Kind.SeqOf h = absurd cc
any-first p node Kind.Choice h = absurd cc

sequence-first : (p : PartId) (node : NodeId) (k : Kind) → is_sequence k ≡ true → next_of_kind k p node 1 ≡ rows (components profile_two node)
sequence-first p node Kind.Seq h = refl
sequence-first p node (Kind.Leaf l) h = absurd cc
sequence-first p node Kind.IllString h = absurd cc
sequence-first p node Kind.SeqOf h = absurd cc
sequence-first p node Kind.Choice h = absurd cc
sequence-first p node Kind.Any h = absurd cc

loose-first : (p : PartId) (node : NodeId) (k : Kind) → (is_sequence k && not (is_strict node)) ≡ true → next_of_kind k p node 0 ≡ either (wrapped p node)
loose-first p node Kind.Seq h = go (is_strict node) h
  where
    go : (b : Bool) → not b ≡ true → around b (wrapped p node) ≡ either (wrapped p node)
    go true h = absurd cc
    go false h = refl
loose-first p node (Kind.Leaf l) h = absurd cc
loose-first p node Kind.IllString h = absurd cc
loose-first p node Kind.SeqOf h = absurd cc
loose-first p node Kind.Choice h = absurd cc
loose-first p node Kind.Any h = absurd cc

list-first : (p : PartId) (node : NodeId) (k : Kind) → is_list k ≡ true → next_of_kind k p node 1 ≡ opening profile_two (list node)
list-first p node Kind.SeqOf h = refl
list-first p node (Kind.Leaf l) h = absurd cc
list-first p node Kind.IllString h = absurd cc
list-first p node Kind.Seq h = absurd cc
list-first p node Kind.Choice h = absurd cc
list-first p node Kind.Any h = absurd cc

wrapper-first : (p : PartId) (node : NodeId) (k : Kind) → kind_of node ≡ k → is_wrapped (is_strict node) k ≡ true → next_of_kind k p node 0 ≡ opening profile_two (wrapper (wrapped p node))
wrapper-first p node k e h = opened k h ∙ sym (ap parent e)
  where
    parent : Kind → Next
    parent k = elim k as (λ _. Next) [ Kind.Any ↦ anything (wrapped p node) | _ ↦ rows (wrapped p node ∷ []) ]

    opened : (k : Kind) → is_wrapped (is_strict node) k ≡ true → next_of_kind k p node 0 ≡ parent k
    opened Kind.SeqOf h = refl
    opened (Kind.Leaf l) h = refl
    opened Kind.IllString h = refl
    opened Kind.Seq h = ap (λ b. around b (wrapped p node)) h
    opened Kind.Choice h = refl
    opened Kind.Any h = refl

empty-first : (p : PartId) (node : NodeId) (k : Kind) (cs : List Component) → components profile_two node ≡ cs → is_empty_sequence k cs ≡ true → next_of_kind k p node 1 ≡ rows []
empty-first p node Kind.Seq [] e h = ap rows e
empty-first p node Kind.Seq (c ∷ cs) e h = absurd cc
empty-first p node (Kind.Leaf l) cs e h = absurd cc
empty-first p node Kind.IllString cs e h = absurd cc
empty-first p node Kind.SeqOf cs e h = absurd cc
empty-first p node Kind.Choice cs e h = absurd cc
empty-first p node Kind.Any cs e h = absurd cc

first-kind : (w : ElementType) (p : PartId) (node : NodeId) (k : Kind) (cs : List Component) → kind_of node ≡ k → components profile_two node ≡ cs → opens w (is_strict node) k cs ≡ true
    → next_of_kind k p node (first_position w) ≡ opening profile_two (element_in p node w)
first-kind (element_type.Leaf l) p node k cs q e h = leaf-first p node k h ∙ ap segments (sym (read_segments l))
first-kind (element_type.ModuleLeaf l) p node k cs q e h = leaf-first p node k h ∙ ap segments (sym (module_segments l))
first-kind element_type.BitString p node k cs q e h = bits-first p node k h
first-kind element_type.Segment p node k cs q e h = leaf-first p node k h
first-kind element_type.BitSegment p node k cs q e h = bits-first p node k h
first-kind element_type.Foreign p node k cs q e h = any-first p node k h
first-kind element_type.Sequence p node k cs q e h = sequence-first p node k h
first-kind element_type.List p node k cs q e h = list-first p node k h
first-kind element_type.Wrapper p node k cs q e h = wrapper-first p node k q h
first-kind element_type.LooseWrapper p node k cs q e h = loose-first p node k h
first-kind element_type.LeftOut p node k cs q e h = empty-first p node k cs e h

-- where an element that may be in its node begins inside
pub first-opens : (w : ElementType) (p : PartId) (node : NodeId) → IsTrue (opens_in w node) → next_from p node (first_position w) ≡ opening profile_two (element_in p node w)
first-opens w p node h = first-kind w p node (kind_of node) (components profile_two node) refl refl h

drop-more : {A : Type 0} (xs : List A) (n : ℕ) → drop n xs ≡ [] → drop (suc n) xs ≡ []
drop-more [] zero e = refl
drop-more [] (suc n) e = refl
drop-more (x ∷ xs) zero e = absurd cc
drop-more (x ∷ xs) (suc n) e = drop-more xs n e

behind-row : (other : Component) (e : Element) (all : List Component) (row : ℕ) (cs : List Component) → drop row all ≡ cs
    → rows (drop (suc row) all) ≡ next_of (due_row other e cs)
behind-row other e all row [] h = ap rows (drop-more all row h)
behind-row other e all row (c ∷ cs) h = ap rows (drop-next all row c cs h)

after-kind : (p : PartId) (node : NodeId) (position : ℕ) (e : Element) (k : Kind) → is_placed k position slot.Row ≡ true
    → next_of_kind k p node (suc position) ≡ next_of (due_at p node position slot.Row e)
after-kind p node zero e k h = absurd cc
after-kind p node (suc row) e Kind.Seq h = behind-row (wrapped p node) e (components profile_two node) row _ refl
after-kind p node (suc row) e Kind.SeqOf h = absurd cc
after-kind p node (suc row) e Kind.Choice h = absurd cc
after-kind p node (suc row) e Kind.Any h = absurd cc
after-kind p node (suc row) e (Kind.Leaf l) h = absurd cc
after-kind p node (suc row) e Kind.IllString h = absurd cc

-- after a row comes the next
pub after-row : (p : PartId) (node : NodeId) (position : ℕ) (e : Element) → IsTrue (is_placed (kind_of node) position slot.Row)
    → next_from p node (position + 1) ≡ next_of (due_at p node position slot.Row e)
after-row p node position e h =
    let z : position + 1 ≡ suc position = omega arith in ap (next_from p node) z ∙ after-kind p node position e (kind_of node) h

item-next : (other : Component) (e : Element) (cs : List Component)
    → elim cs as (λ _. Next) [ [] ↦ rows [] | c ∷ _ ↦ items c ] ≡ next_of (due_item other e cs)
item-next other e [] = refl
item-next other e (c ∷ cs) = refl

-- after an item come more
pub after-item : (p : PartId) (node : NodeId) (position : ℕ) (e : Element) (k : Kind) → kind_of node ≡ k → is_placed k position slot.Item ≡ true
    → next_from p node position ≡ next_of (due_at p node position slot.Item e)
after-item p node (suc zero) e Kind.SeqOf f h = ap (λ (k : Kind). next_of_kind k p node 1) f ∙ item-next (wrapped p node) e (components profile_two node)
after-item p node (suc zero) e Kind.Seq f h = absurd cc
after-item p node (suc zero) e Kind.Choice f h = absurd cc
after-item p node (suc zero) e Kind.Any f h = absurd cc
after-item p node (suc zero) e (Kind.Leaf l) f h = absurd cc
after-item p node (suc zero) e Kind.IllString f h = absurd cc
after-item p node zero e k f h = absurd cc
after-item p node (suc (suc n)) e k f h = absurd cc

-- after a segment come more
pub after-segment : (p : PartId) (node : NodeId) (position : ℕ) (e : Element) (k : Kind) → kind_of node ≡ k → is_placed k position slot.Segment ≡ true
    → next_from p node position ≡ next_of (due_at p node position slot.Segment e)
after-segment p node (suc zero) e k f h =
    ap (λ (x : Kind). next_of_kind x p node 1) f ∙ strings-first p node k h ∙ ap (λ (x : Kind). segments (segments_in x)) (sym f)
    ∙ sym (segment-next (segments_in (kind_of node)) (wrapped p node) e)
after-segment p node zero e k f h = absurd cc
after-segment p node (suc (suc n)) e k f h = absurd cc

-- after the root of a foreign tree comes nothing
pub after-root : (p : PartId) (node : NodeId) (position : ℕ) (e : Element) → rows [] ≡ next_of (due_at p node position slot.Root e)
after-root p node position e = sym (foreign-next (rows []) (wrapped p node) e)

-- after an element in one come more
pub after-foreign : (p : PartId) (node : NodeId) (position : ℕ) (e : Element) (k : Kind) → kind_of node ≡ k → is_placed k position slot.Foreign ≡ true
    → next_from p node position ≡ next_of (due_at p node position slot.Foreign e)
after-foreign p node (suc zero) e k f h =
    ap (λ (x : Kind). next_of_kind x p node 1) f ∙ any-first p node k h ∙ sym (foreign-next (foreigns (levels_in p)) (wrapped p node) e)
after-foreign p node zero e k f h = absurd cc
after-foreign p node (suc (suc n)) e k f h = absurd cc
