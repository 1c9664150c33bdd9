-- What the cells of a node are to say is what is due there.
use Rattle.std.proofs.Common.{◌≡◌, ℕ, zero, suc, Bool, true, false, ◌&&◌, ◌||◌, List, [], ◌∷◌, drop, ◌++◌, Option, Some, None, option_map, refl, sym, ap, ap₂, ◌∙◌, arith}
use Rattle.std.specs.Prelude.{find, flat_map, if◌then◌else◌, is_some, nat_eq}
use Rattle.std.proofs.lemmas.Bool.Decides.{nat_tests}
use Rattle.ber_tree.specs.Identifier.{Tag, class_bits}
use Rattle.ber_tree.specs.Tree.{octet_string}
use Rattle.ber_leaf.specs.Profile.{profile_two}
use Rattle.ill_tables.specs.declared.node.Kind.{Kind}
use Rattle.ill_tables.specs.declared.node.NodeId.{NodeId}
use Rattle.ill_tables.specs.declared.part.PartId.{PartId}
use Rattle.ill_tables.specs.declared.part.Presence.{Presence}
use Rattle.ill_tables.specs.Table.{kind_of}
use Rattle.ill_schema.specs.Tagging.{same_tag, sequence_tag}
use Rattle.ill_refusals.specs.Element.{Component, component_starts, components, own_starts, segment, sequence, Start, start}
use Rattle.ill_refusals.specs.Next.{Next, rows, items, either, segments, anything, foreigns, Due, part, octets, due, due_in, start_of, first_mandatory, missing}
use Rattle.ill_grammar.specs.Elements.{element_with}
use Rattle.ill_grammar.specs.Cells.{around, due_at, due_segment, is_strict, next_from, next_of_kind, node_choice, segments_in, wrapped}
use Rattle.ill_grammar.specs.code.ByTag.{due_by_tag}
use Rattle.ill_schema.proofs.Tags.{same_tag-refl}
use Rattle.ill_grammar.specs.code.Meant.{Meant, meant, is_must, item_meant, kind_meant, node_meant, node_starts, rows_meant, segment_meant}
use Rattle.ill_grammar.specs.declared.cell.EntryRole.TheVariants as slot

-- what is due by the tag, where these say what may come at a position of a node and after it
abbrev pub scan : Tag → PartId → NodeId → ℕ → List Meant → Option Due
scan t p node position [] = None
scan t p node position (m ∷ ms) = elim (element_with t m.starts) as (λ _. Option Due) [
  | Some e ↦ Some (due_at p node position m.slot e)
  | None ↦ if m.is_mandatory then None else scan t p node (suc position) ms
]

pub drop-next : {A : Type 0} (xs : List A) (n : ℕ) (y : A) (ys : List A) → drop n xs ≡ y ∷ ys → drop (suc n) xs ≡ ys
drop-next [] zero y ys e = absurd cc
drop-next [] (suc n) y ys e = absurd cc
drop-next (x ∷ xs) zero y ys e = cc
drop-next (x ∷ xs) (suc n) y ys e = drop-next xs n y ys e

row-scanned : (t : Tag) (p : PartId) (node : NodeId) (row : ℕ) (c : Component) (cs : List Component) → drop row (components profile_two node) ≡ c ∷ cs
    → scan t p node (suc (suc row)) (rows_meant cs) ≡ due_in profile_two t cs → scan t p node (suc row) (rows_meant (c ∷ cs)) ≡ due_in profile_two t (c ∷ cs)
row-scanned t p node row c cs e rest = at (start_of profile_two t c)
  where
    by : (x : Presence) → (if is_must x then None else scan t p node (suc (suc row)) (rows_meant cs))
        ≡ elim x as (λ _. Option Due) [ Presence.Must ↦ None | _ ↦ due_in profile_two t cs ]
    by Presence.Must = refl
    by Presence.May = rest
    by (Presence.Default d) = rest
    by Presence.LeftOut = rest

    at : (o : Option Start) → elim (option_map (λ (s : Start). s.element) o) as (λ _. Option Due) [
      | Some x ↦ Some (due_at p node (suc row) slot.Row x)
      | None ↦ if is_must c.presence then None else scan t p node (suc (suc row)) (rows_meant cs)
    ] ≡ elim o as (λ _. Option Due) [
      | Some s ↦ Some (part c s.element (rows cs))
      | None ↦ elim c.presence as (λ _. Option Due) [ Presence.Must ↦ None | _ ↦ due_in profile_two t cs ]
    ]
    at (Some s) = ap (λ (xs : List Component). Some (elim xs as (λ _. Due) [ [] ↦ part (wrapped p node) s.element (rows []) | x ∷ xs ↦ part x s.element (rows xs) ])) e
    at None = by c.presence

scan-rows : (t : Tag) (p : PartId) (node : NodeId) (row : ℕ) (cs : List Component) → drop row (components profile_two node) ≡ cs
    → scan t p node (suc row) (rows_meant cs) ≡ due_in profile_two t cs
scan-rows t p node row [] e = refl
scan-rows t p node row (c ∷ cs) e = row-scanned t p node row c cs e (scan-rows t p node (suc row) cs (drop-next _ row c cs e))

-- in a wrapper there is the one component
scan-around : (t : Tag) (p : PartId) (node : NodeId) (mandatory_follows : Bool) (choice : Option NodeId) (ms : List Meant)
    → scan t p node zero (meant (node_starts node) slot.Inner true mandatory_follows choice None ∷ ms) ≡ due profile_two t (rows (wrapped p node ∷ []))
scan-around t p node mandatory_follows choice ms = at (start_of profile_two t (wrapped p node))
  where
    at : (o : Option Start) → elim (option_map (λ (s : Start). s.element) o) as (λ _. Option Due) [
      | Some x ↦ Some (due_at p node zero slot.Inner x)
      | None ↦ None
    ] ≡ elim o as (λ _. Option Due) [ Some s ↦ Some (part (wrapped p node) s.element (rows [])) | None ↦ None ]
    at (Some s) = refl
    at None = refl

-- in a list there are its items
scan-item : (t : Tag) (p : PartId) (node : NodeId) (cs : List Component) → components profile_two node ≡ cs
    → scan t p node 1 (item_meant cs) ≡ due_by_tag t (elim cs as (λ _. Next) [ [] ↦ rows [] | c ∷ _ ↦ items c ])
scan-item t p node [] e = refl
scan-item t p node (c ∷ cs) e = at (start_of profile_two t c)
  where
    at : (o : Option Start) → elim (option_map (λ (s : Start). s.element) o) as (λ _. Option Due) [
      | Some x ↦ Some (due_at p node 1 slot.Item x)
      | None ↦ None
    ] ≡ elim o as (λ _. Option Due) [ Some s ↦ Some (part c s.element (items c)) | None ↦ None ]
    at (Some s) = ap (λ (xs : List Component). Some (elim xs as (λ _. Due) [ [] ↦ part (wrapped p node) s.element (rows []) | x ∷ _ ↦ part x s.element (items x) ])) e
    at None = refl

nat_eq-swap : (m n : ℕ) → nat_eq m n ≡ nat_eq n m
nat_eq-swap m n = grind (arith, nat_tests)

pub same_tag-swap : (s t : Tag) → same_tag s t ≡ same_tag t s
same_tag-swap s t = ap₂ ◌&&◌ (nat_eq-swap (class_bits s.class) (class_bits t.class)) (nat_eq-swap s.number t.number)

-- in a string there are segments
scan-segments : (t u : Tag) (p : PartId) (node : NodeId) → segments_in (kind_of node) ≡ u → scan t p node 1 (segment_meant u) ≡ due profile_two t (segments u)
scan-segments t u p node e = at (same_tag u t) ∙ ap (λ b. if b then Some (octets u) else None) (same_tag-swap u t)
  where
    here : due_at p node 1 slot.Segment (segment u) ≡ octets u
    here =
        ap (λ v. due_segment v (wrapped p node) (segment u)) e
        ∙ ap (λ b. if b then octets u else part (wrapped p node) (segment u) (segments u)) (same_tag-refl u)

    at : (b : Bool) → elim (option_map (λ (s : Start). s.element) (if b then Some (start u (segment u)) else None)) as (λ _. Option Due) [
      | Some x ↦ Some (due_at p node 1 slot.Segment x)
      | None ↦ None
    ] ≡ (if b then Some (octets u) else None)
    at true = ap Some here
    at false = refl

pub sequence_starts : (node : NodeId) → kind_of node ≡ Kind.Seq → node_starts node ≡ start sequence_tag (sequence node) ∷ []
sequence_starts node e =
    ap (λ k. own_starts k node ++ elim k as (λ _. List Start) [ Kind.Choice ↦ flat_map component_starts (components profile_two node) | _ ↦ [] ]) e

-- in a loose wrapper there is the component, or the components of its node
scan-either : (t : Tag) (p : PartId) (node : NodeId) (mandatory_follows : Bool) (choice : Option NodeId) → kind_of node ≡ Kind.Seq
    → scan t p node zero (meant (node_starts node) slot.Inner false mandatory_follows choice None ∷ rows_meant (components profile_two node)) ≡ due profile_two t (either (wrapped p node))
scan-either t p node mandatory_follows choice k = at (same_tag t sequence_tag) (start_of profile_two t (wrapped p node)) first rest
  where
    first : start_of profile_two t (wrapped p node) ≡ (if same_tag t sequence_tag then Some (start sequence_tag (sequence node)) else None)
    first =
        ap (λ ss. find (λ s. same_tag s.tag t) ss) (sequence_starts node k)
        ∙ ap (λ b. if b then Some (start sequence_tag (sequence node)) else None) (same_tag-swap sequence_tag t)

    rest : scan t p node 1 (rows_meant (components profile_two node)) ≡ due_in profile_two t (components profile_two node)
    rest = scan-rows t p node zero (components profile_two node) refl

    at : (b : Bool) (o : Option Start) → o ≡ (if b then Some (start sequence_tag (sequence node)) else None)
        → scan t p node 1 (rows_meant (components profile_two node)) ≡ due_in profile_two t (components profile_two node)
        → elim (option_map (λ (s : Start). s.element) o) as (λ _. Option Due) [
          | Some x ↦ Some (due_at p node zero slot.Inner x)
          | None ↦ scan t p node 1 (rows_meant (components profile_two node))
        ] ≡ elim b as (λ _. Option Due) [
          | true ↦ elim o as (λ _. Option Due) [ Some s ↦ Some (part (wrapped p node) s.element (rows [])) | None ↦ None ]
          | false ↦ due_in profile_two t (components profile_two node)
        ]
    at true None e r = absurd cc
    at true (Some s) e r = refl
    at false None e r = r
    at false (Some s) e r = absurd cc

-- in a wrapper round a sequence
scan-sequence : (t : Tag) (p : PartId) (node : NodeId) (strict mandatory_follows : Bool) (choice : Option NodeId) → kind_of node ≡ Kind.Seq
    → scan t p node zero (meant (node_starts node) slot.Inner strict mandatory_follows choice None ∷ rows_meant (components profile_two node)) ≡ due_by_tag t (around strict (wrapped p node))
scan-sequence t p node true mandatory_follows choice e = scan-around t p node mandatory_follows choice (rows_meant (components profile_two node))
scan-sequence t p node false mandatory_follows choice e = scan-either t p node mandatory_follows choice e

-- an open type begins by no tag
any_starts : (node : NodeId) → kind_of node ≡ Kind.Any → node_starts node ≡ []
any_starts node e =
    ap (λ k. own_starts k node ++ elim k as (λ _. List Start) [ Kind.Choice ↦ flat_map component_starts (components profile_two node) | _ ↦ [] ]) e

scan-any : (t : Tag) (p : PartId) (node : NodeId) (mandatory_follows : Bool) (choice : Option NodeId) (ms : List Meant) → kind_of node ≡ Kind.Any
    → scan t p node zero (meant (node_starts node) slot.Inner true mandatory_follows choice None ∷ ms) ≡ None
scan-any t p node mandatory_follows choice ms e =
    ap (λ ss. elim (element_with t ss) as (λ _. Option Due) [ Some x ↦ Some (due_at p node zero slot.Inner x) | None ↦ None ]) (any_starts node e)

pub drop-none : {A : Type 0} (n : ℕ) → drop n (let none : List A = [] in none) ≡ []
drop-none zero = refl
drop-none (suc n) = refl

pub drop-item : (n : ℕ) (cs : List Component) → drop (suc n) (item_meant cs) ≡ []
drop-item n [] = refl
drop-item n (c ∷ cs) = drop-none n

pub drop-rows : (n : ℕ) (cs : List Component) → drop n (rows_meant cs) ≡ rows_meant (drop n cs)
drop-rows zero cs = refl
drop-rows (suc n) [] = refl
drop-rows (suc n) (c ∷ cs) = drop-rows n cs

scan-kind : (t : Tag) (p : PartId) (node : NodeId) (position : ℕ) (k : Kind) → kind_of node ≡ k
    → scan t p node position (drop position (kind_meant k node)) ≡ due_by_tag t (next_of_kind k p node position)
scan-kind t p node zero Kind.Seq e = scan-sequence t p node (is_strict node) (is_strict node || is_some (first_mandatory (components profile_two node))) (node_choice node) e
scan-kind t p node (suc row) Kind.Seq e =
    ap (scan t p node (suc row)) (drop-rows row (components profile_two node)) ∙ scan-rows t p node row (drop row (components profile_two node)) refl
scan-kind t p node zero Kind.SeqOf e = scan-around t p node true (node_choice node) (item_meant (components profile_two node))
scan-kind t p node (suc zero) Kind.SeqOf e = scan-item t p node (components profile_two node) refl
scan-kind t p node (suc (suc n)) Kind.SeqOf e = ap (scan t p node (suc (suc n))) (drop-item n (components profile_two node))
scan-kind t p node zero Kind.Choice e = scan-around t p node true (node_choice node) []
scan-kind t p node (suc zero) Kind.Choice e = refl
scan-kind t p node (suc (suc n)) Kind.Choice e = refl
scan-kind t p node zero Kind.Any e = scan-any t p node true (node_choice node) [] e
scan-kind t p node (suc zero) Kind.Any e = refl
scan-kind t p node (suc (suc n)) Kind.Any e = refl
scan-kind t p node zero (Kind.Leaf l) e = scan-around t p node true (node_choice node) (segment_meant (segments_in (Kind.Leaf l)))
scan-kind t p node (suc zero) (Kind.Leaf l) e = scan-segments t (segments_in (Kind.Leaf l)) p node (ap segments_in e)
scan-kind t p node (suc (suc n)) (Kind.Leaf l) e = ap (scan t p node (suc (suc n))) (drop-none n)
scan-kind t p node zero Kind.IllString e = scan-around t p node true (node_choice node) (segment_meant octet_string)
scan-kind t p node (suc zero) Kind.IllString e = scan-segments t octet_string p node (ap segments_in e)
scan-kind t p node (suc (suc n)) Kind.IllString e = ap (scan t p node (suc (suc n))) (drop-none n)

pub scan-node : (t : Tag) (p : PartId) (node : NodeId) (position : ℕ)
    → scan t p node position (drop position (node_meant node)) ≡ due_by_tag t (next_from p node position)
scan-node t p node position = scan-kind t p node position (kind_of node) refl

-- what is missing there, and whether something is
abbrev pub lacking : List Meant → Bool
lacking [] = false
lacking (m ∷ ms) = m.mandatory_follows

lacking-rows : (cs : List Component) → lacking (rows_meant cs) ≡ is_some (first_mandatory cs)
lacking-rows [] = refl
lacking-rows (c ∷ cs) = refl

lacking-kind : (p : PartId) (node : NodeId) (position : ℕ) (k : Kind)
    → lacking (drop position (kind_meant k node)) ≡ is_some (missing profile_two (next_of_kind k p node position))
lacking-kind p node zero Kind.Seq = at (is_strict node)
  where
    at : (b : Bool) → (b || is_some (first_mandatory (components profile_two node))) ≡ is_some (missing profile_two (around b (wrapped p node)))
    at true = refl
    at false = refl
lacking-kind p node (suc row) Kind.Seq = ap lacking (drop-rows row (components profile_two node)) ∙ lacking-rows (drop row (components profile_two node))
lacking-kind p node zero Kind.SeqOf = refl
lacking-kind p node (suc zero) Kind.SeqOf = at (components profile_two node)
  where
    at : (cs : List Component) → lacking (item_meant cs) ≡ is_some (missing profile_two (elim cs as (λ _. Next) [ [] ↦ rows [] | c ∷ _ ↦ items c ]))
    at [] = refl
    at (c ∷ cs) = refl
lacking-kind p node (suc (suc n)) Kind.SeqOf = ap lacking (drop-item n (components profile_two node))
lacking-kind p node zero Kind.Choice = refl
lacking-kind p node (suc zero) Kind.Choice = refl
lacking-kind p node (suc (suc n)) Kind.Choice = refl
lacking-kind p node zero Kind.Any = refl
lacking-kind p node (suc zero) Kind.Any = refl
lacking-kind p node (suc (suc n)) Kind.Any = refl
lacking-kind p node zero (Kind.Leaf l) = refl
lacking-kind p node (suc zero) (Kind.Leaf l) = refl
lacking-kind p node (suc (suc n)) (Kind.Leaf l) = ap lacking (drop-none n)
lacking-kind p node zero Kind.IllString = refl
lacking-kind p node (suc zero) Kind.IllString = refl
lacking-kind p node (suc (suc n)) Kind.IllString = ap lacking (drop-none n)

pub lacking-node : (p : PartId) (node : NodeId) (position : ℕ) → lacking (drop position (node_meant node)) ≡ is_some (missing profile_two (next_from p node position))
lacking-node p node position = lacking-kind p node position (kind_of node)

-- what is due by its tag is due
pub tag-due : (t : Tag) (n : Next) (d : Due) → due_by_tag t n ≡ Some d → due profile_two t n ≡ Some d
tag-due t (rows cs) d h = h
tag-due t (items c) d h = h
tag-due t (either c) d h = h
tag-due t (segments u) d h = h
tag-due t (anything c) d h = absurd cc
tag-due t (foreigns n) d h = absurd cc

-- in an open type nothing is due by its tag
pub any-by-tag : (t : Tag) (p : PartId) (node : NodeId) (position : ℕ) → kind_of node ≡ Kind.Any → due_by_tag t (next_from p node position) ≡ None
any-by-tag t p node position e = ap (λ k. due_by_tag t (next_of_kind k p node position)) e ∙ go position
  where
    go : (n : ℕ) → due_by_tag t (next_of_kind Kind.Any p node n) ≡ None
    go zero = refl
    go (suc zero) = refl
    go (suc (suc n)) = refl

pub none-by-tag : (t : Tag) (p : PartId) (node : NodeId) (position : ℕ) (d : Due) → kind_of node ≡ Kind.Any → due_by_tag t (next_from p node position) ≡ Some d → ⊥
none-by-tag t p node position d e h = let q : None ≡ Some d = sym (any-by-tag t p node position e) ∙ h in cc
