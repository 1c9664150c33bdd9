-- What the cells of a node say, one by one.
use Rattle.std.proofs.lemmas.List.{append-nil}
use Rattle.std.proofs.Common.{◌≡◌, ℕ, zero, suc, ◌≤◌, Bool, true, false, ◌||◌, IsTrue, List, [], ◌∷◌, ◌++◌, drop, length, Option, Some, None, option_map, refl, sym, ap, subst, ◌∙◌, arith, slice_get}
use Rattle.std.specs.Prelude.{flat_map, is_some, if◌then◌else◌}
use Rattle.ber_tree.specs.Identifier.{Tag}
use Rattle.ber_tree.specs.Tree.{octet_string}
use Rattle.ber_leaf.specs.Profile.{profile_two}
use Rattle.ill_tables.specs.declared.node.Kind.{Kind}
use Rattle.ill_tables.specs.declared.node.NodeId.{NodeId}
use Rattle.ill_tables.specs.declared.part.PartId.{PartId}
use Rattle.ill_tables.specs.Table.{kind_of}
use Rattle.ill_schema.specs.Tagging.{Tagging, untagged, implicit, explicit, explicit_or_bare, same_tag}
use Rattle.ill_refusals.specs.Element.{Component, component_starts, components, Element, segment, Start, start, starts}
use Rattle.ill_refusals.specs.Next.{first_mandatory, octets, part, segments}
use Rattle.ill_grammar.specs.Elements.{element_with}
use Rattle.ill_grammar.specs.Cells.{Begins, BeginsDue, due_at, due_item, due_row, due_segment, is_placed, is_strict, node_choice, presence_default, segments_in, wrapped}
use Rattle.ill_grammar.specs.code.Meant.{Meant, cell_meant, cells_meant, component_choice, default_at, default_first, is_must, has_components, item_meant, kind_meant, meant, node_meant, node_starts, row_there, rows_meant, segment_meant}
use Rattle.ill_grammar.specs.code.Starts.{BeginsIn, IsBegun}
use Rattle.ill_grammar.specs.declared.cell.Cell.{Cell}
use Rattle.ill_grammar.specs.declared.cell.EntryRole.TheVariants as slot
use Rattle.ill_schema.proofs.Tags.{same_tag-refl}
use Rattle.ill_grammar.proofs.Scanning.{drop-item, drop-none, drop-rows}

-- what the cell at a position says, before those after it
pub cells-at : (i : ℕ) (cs : List Cell) (c : Cell) → slice_get cs i ≡ Some c → drop i (cells_meant cs) ≡ cell_meant c ∷ drop (suc i) (cells_meant cs)
cells-at zero [] c e = absurd cc
cells-at (suc i) [] c e = absurd cc
cells-at zero (d ∷ cs) c e = let g : d ≡ c = cc in ap (λ (x : Cell). cell_meant x ∷ cells_meant cs) g
cells-at (suc i) (d ∷ cs) c e = cells-at i cs c e

-- after the last cell there are none
pub cells-end : (i : ℕ) (cs : List Cell) → length cs ≤ i → drop i (cells_meant cs) ≡ []
cells-end zero [] h = refl
cells-end (suc i) [] h = refl
cells-end zero (c ∷ cs) h = absurd (omega arith)
cells-end (suc i) (c ∷ cs) h = cells-end i cs (omega arith)

abbrev choice_of : Kind → NodeId → Option NodeId
choice_of k node = elim k as (λ _. Option NodeId) [ Kind.Choice ↦ Some node | _ ↦ None ]

abbrev starts_under : Tagging → Component → List Start → List Start
starts_under x c ss = elim x as (λ _. List Start) [ untagged ↦ component_starts c ++ ss | _ ↦ component_starts c ]

abbrev others_of : Kind → Component → List Start
others_of k c = elim k as (λ _. List Start) [ Kind.Choice ↦ flat_map component_starts (components profile_two c.node) | _ ↦ [] ]

abbrev choice_under : Tagging → Option NodeId → Option NodeId
choice_under x o = elim x as (λ _. Option NodeId) [ untagged ↦ o | _ ↦ None ]

begins-plain : (t : Tag) (c : Component) (a : Option ℕ) (e : Element) (ss : List Start) → ss ≡ component_starts c → element_with t ss ≡ Some e → BeginsIn t None a e → Begins t c a e
begins-plain t c None e ss f h b = ap (element_with t) (sym f) ∙ h
begins-plain t c (Some n) e ss f h b = absurd b

begins-untagged : (t : Tag) (c : Component) (a : Option ℕ) (e : Element) (k : Kind) → c.tagging ≡ untagged → kind_of c.node ≡ k
    → element_with t (component_starts c ++ others_of k c) ≡ Some e → BeginsIn t (choice_of k c.node) a e → Begins t c a e
begins-untagged t c None e Kind.Choice f g h b = absurd b
begins-untagged t c (Some n) e Kind.Choice f g h b = (f, g, b)
begins-untagged t c a e Kind.Any f g h b = begins-plain t c a e _ (append-nil (component_starts c)) h b
begins-untagged t c a e Kind.Seq f g h b = begins-plain t c a e _ (append-nil (component_starts c)) h b
begins-untagged t c a e Kind.SeqOf f g h b = begins-plain t c a e _ (append-nil (component_starts c)) h b
begins-untagged t c a e (Kind.Leaf l) f g h b = begins-plain t c a e _ (append-nil (component_starts c)) h b
begins-untagged t c a e Kind.IllString f g h b = begins-plain t c a e _ (append-nil (component_starts c)) h b

begins-under : (t : Tag) (c : Component) (a : Option ℕ) (e : Element) (x : Tagging) → c.tagging ≡ x
    → element_with t (starts_under x c (others_of (kind_of c.node) c)) ≡ Some e → BeginsIn t (choice_under x (choice_of (kind_of c.node) c.node)) a e → Begins t c a e
begins-under t c a e untagged f h b = begins-untagged t c a e (kind_of c.node) f refl h b
begins-under t c a e (implicit tag) f h b = begins-plain t c a e _ refl h b
begins-under t c a e (explicit tag) f h b = begins-plain t c a e _ refl h b
begins-under t c a e (explicit_or_bare tag) f h b = begins-plain t c a e _ refl h b

-- a component begins by its own tags, or by an alternative's where it is a choice without a tag
begins-component : (t : Tag) (c : Component) (a : Option ℕ) (e : Element) → IsBegun t (starts profile_two c) (component_choice c) a e → Begins t c a e
begins-component t c a e h = begins-under t c a e c.tagging refl h.is h.by

-- what is said at a position of a node
pub record IsSaid (k : Kind) (node : NodeId) (position : ℕ) (m : Meant) : Type 0 where
  pub opens : m.opens ≡ true
  pub placed : IsTrue (is_placed k position m.slot)
  pub there : IsTrue (row_there m.slot position (components profile_two node))
  pub default : m.default ≡ default_at node position m.slot
  pub begins : (t : Tag) (p : PartId) (a : Option ℕ) (e : Element) → IsBegun t m.starts m.choice a e → BeginsDue t (due_at p node position m.slot e) a

said-around : (k : Kind) (node : NodeId) (is_mandatory mandatory_follows : Bool) → IsSaid k node zero (meant (node_starts node) slot.Inner is_mandatory mandatory_follows (node_choice node) None)
said-around k node is_mandatory mandatory_follows = record {
  opens = refl;
  placed = refl;
  there = refl;
  default = refl;
  begins = λ t p a e h. begins-component t (wrapped p node) a e (record { is = h.is; by = h.by });
}

said-row : (node : NodeId) (row : ℕ) (cs : List Component) (m : Meant) (ms : List Meant) → drop row (components profile_two node) ≡ cs
    → rows_meant cs ≡ m ∷ ms → IsSaid Kind.Seq node (suc row) m
said-row node row [] m ms e f = absurd cc
said-row node row (c ∷ cs) m ms e f =
    let g : meant (starts profile_two c) slot.Row (is_must c.presence) (is_some (first_mandatory (c ∷ cs))) (component_choice c) (presence_default c.presence) ≡ m = cc in
    subst (IsSaid Kind.Seq node (suc row)) g (record {
      opens = refl;
      placed = refl;
      there = ap has_components e;
      default = ap default_first (sym e);
      begins = λ t p a x b. subst (λ xs. BeginsDue t (due_row (wrapped p node) x xs) a) (sym e) (begins-component t c a x (record { is = b.is; by = b.by }));
    })

said-item : (node : NodeId) (cs : List Component) (m : Meant) (ms : List Meant) → components profile_two node ≡ cs
    → item_meant cs ≡ m ∷ ms → IsSaid Kind.SeqOf node 1 m
said-item node [] m ms e f = absurd cc
said-item node (c ∷ cs) m ms e f =
    let g : meant (starts profile_two c) slot.Item false false (component_choice c) (presence_default c.presence) ≡ m = cc in
    subst (IsSaid Kind.SeqOf node 1) g (record {
      opens = refl;
      placed = refl;
      there = ap has_components e;
      default = ap default_first (sym e);
      begins = λ t p a x b. subst (λ xs. BeginsDue t (due_item (wrapped p node) x xs) a) (sym e) (begins-component t c a x (record { is = b.is; by = b.by }));
    })

segment-only : (u : Tag) (b : Bool) (e : Element) → option_map (λ (s : Start). s.element) (if b then Some (start u (segment u)) else None) ≡ Some e → segment u ≡ e
segment-only u true e h = cc
segment-only u false e h = absurd cc

no_alternative : (t : Tag) (a : Option ℕ) (e : Element) → BeginsIn t None a e → a ≡ None
no_alternative t None e b = refl
no_alternative t (Some n) e b = absurd b

said-segment : (k : Kind) (node : NodeId) (u : Tag) → segments_in (kind_of node) ≡ u → IsTrue (is_placed k 1 slot.Segment)
    → IsSaid k node 1 (meant (start u (segment u) ∷ []) slot.Segment false false None None)
said-segment k node u is h = record {
  opens = refl;
  placed = h;
  there = refl;
  default = refl;
  begins = λ t p a e b.
      subst (λ x. BeginsDue t (due_segment (segments_in (kind_of node)) (wrapped p node) x) a) (segment-only u (same_tag u t) e b.is)
      (subst (λ d. BeginsDue t d a) (sym (here p)) (no_alternative t a e b.by));
}
  where
    here : (p : PartId) → due_segment (segments_in (kind_of node)) (wrapped p node) (segment u) ≡ octets u
    here p =
        ap (λ v. due_segment v (wrapped p node) (segment u)) is
        ∙ ap (λ b. if b then octets u else part (wrapped p node) (segment u) (segments u)) (same_tag-refl u)

said-string : (k : Kind) (node : NodeId) (u : Tag) (position : ℕ) (m : Meant) (ms : List Meant) → segments_in (kind_of node) ≡ u → IsTrue (is_placed k 1 slot.Segment)
    → drop position (meant (node_starts node) slot.Inner true true (node_choice node) None ∷ segment_meant u) ≡ m ∷ ms → IsSaid k node position m
said-string k node u zero m ms is h f =
    let g : meant (node_starts node) slot.Inner true true (node_choice node) None ≡ m = cc in subst (IsSaid k node zero) g (said-around k node true true)
said-string k node u (suc zero) m ms is h f =
    let g : meant (start u (segment u) ∷ []) slot.Segment false false None None ≡ m = cc in subst (IsSaid k node 1) g (said-segment k node u is h)
said-string k node u (suc (suc n)) m ms is h f = absurd (let g : [] ≡ m ∷ ms = sym (drop-none n) ∙ f in cc)

said-kind : (k : Kind) (node : NodeId) (position : ℕ) (m : Meant) (ms : List Meant) → kind_of node ≡ k → drop position (kind_meant k node) ≡ m ∷ ms → IsSaid k node position m
said-kind Kind.Seq node zero m ms e f =
    let g : meant (node_starts node) slot.Inner (is_strict node) (is_strict node || is_some (first_mandatory (components profile_two node))) (node_choice node) None ≡ m = cc in
    subst (IsSaid Kind.Seq node zero) g (said-around Kind.Seq node _ _)
said-kind Kind.Seq node (suc row) m ms e f =
    said-row node row (drop row (components profile_two node)) m ms refl (sym (drop-rows row (components profile_two node)) ∙ f)
said-kind Kind.SeqOf node zero m ms e f =
    let g : meant (node_starts node) slot.Inner true true (node_choice node) None ≡ m = cc in subst (IsSaid Kind.SeqOf node zero) g (said-around Kind.SeqOf node true true)
said-kind Kind.SeqOf node (suc zero) m ms e f = said-item node (components profile_two node) m ms refl f
said-kind Kind.SeqOf node (suc (suc n)) m ms e f = absurd (let g : [] ≡ m ∷ ms = sym (drop-item n (components profile_two node)) ∙ f in cc)
said-kind Kind.Choice node zero m ms e f =
    let g : meant (node_starts node) slot.Inner true true (node_choice node) None ≡ m = cc in subst (IsSaid Kind.Choice node zero) g (said-around Kind.Choice node true true)
said-kind Kind.Choice node (suc n) m ms e f = absurd (let g : [] ≡ m ∷ ms = sym (drop-none n) ∙ f in cc)
said-kind Kind.Any node zero m ms e f =
    let g : meant (node_starts node) slot.Inner true true (node_choice node) None ≡ m = cc in subst (IsSaid Kind.Any node zero) g (said-around Kind.Any node true true)
said-kind Kind.Any node (suc n) m ms e f = absurd (let g : [] ≡ m ∷ ms = sym (drop-none n) ∙ f in cc)
said-kind (Kind.Leaf l) node position m ms e f = said-string (Kind.Leaf l) node (segments_in (Kind.Leaf l)) position m ms (ap segments_in e) refl f
said-kind Kind.IllString node position m ms e f = said-string Kind.IllString node octet_string position m ms (ap segments_in e) refl f

pub said-node : (node : NodeId) (position : ℕ) (m : Meant) (ms : List Meant) → drop position (node_meant node) ≡ m ∷ ms → IsSaid (kind_of node) node position m
said-node node position m ms f = said-kind (kind_of node) node position m ms refl f
