-- What may be in an open element, one tree after another, and what it is when it ends.
use Rattle.std.proofs.Common.{◌≡◌, ℕ, zero, suc, ℤ, pos, ◌+◌, ◌-◌, Bool, true, false, ◌||◌, List, [], ◌∷◌, Option, Some, None, IsTrue, refl, sym, ap, ap₂, subst, ◌∙◌, inl, inr, map, slice_get}
use Rattle.std.specs.Prelude.{flat_map, if◌then◌else◌}
use Rattle.std.specs.List.{list_all}
use Rattle.std.specs.Ordering.{int_eq}
use Rattle.std.specs.Cmp.{signed_Decides}
use Rattle.ber_core.specs.Foreign.{is_foreign, are_foreign, foreign_levels}
use Rattle.ber_core.proofs.Foreign.{both, has_identified}
use Rattle.ber_tree.specs.Identifier.{Tag, HasIdentifier}
use Rattle.ber_tree.specs.Tree.{Tree, Trees, primitive, constructed, none, more, tag_of, AreSegments}
use Rattle.ber_leaf.specs.Leaf.{Leaf}
use Rattle.ber_leaf.specs.Segments.{segment_tag, segments_content}
use Rattle.ill_tables.specs.declared.node.Kind.{Kind}
use Rattle.ill_tables.specs.declared.node.LeafKind.{LeafKind}
use Rattle.ill_tables.specs.declared.node.NodeId.{NodeId}
use Rattle.ill_tables.specs.declared.node.NodeId.TheVariants.{Boolean}
use Rattle.ill_tables.specs.declared.part.PartId.{PartId}
use Rattle.ill_tables.specs.declared.part.Presence.{Presence}
use Rattle.ill_tables.specs.declared.part.Row.{Row}
use Rattle.ill_schema.specs.Content.{Content, simple, alternative, Entries, no_entries, absent, present, Items, no_items, item}
use Rattle.ber_leaf.specs.Simple.{flag}
use Rattle.ill_schema.specs.Content as content
use Rattle.ill_refusals.specs.Element.{Component, components, components_from, Element, leaf, sequence, list, wrapper, loose_wrapper, segment, foreign, left_out, Start, starts}
use Rattle.ill_refusals.specs.Fault.{element_fault, string_fault}
use Rattle.ber_tree.specs.Octets.{are_octets}
use Rattle.ill_schema.specs.Meaning.{Means, Matches, MatchItems}
use Rattle.ill_refusals.specs.Next.{Next, rows, items, either, segments, anything, foreigns, Due, part, octets, any, due, due_in, start_of, element_of, next_of, next_after, missing, first_mandatory, opening, IsWhole, AreWhole}
use Rattle.ill_refusals.specs.Place.{allows}
use Rattle.ber_leaf.specs.Profile.{Profile, profile_two}
use Rattle.ill_schema.specs.Tagging.{Tagging, untagged, tagging, same_tag, sequence_tag}
use Rattle.ill_schema.specs.Presence.{IsCarried, MayLack, is_default_of, default_value, same_value}
use Rattle.ill_tables.specs.Table.{kind_of, rows_of}
use Rattle.ill_schema.specs.TableFacts.{node_tags, row_tags}
use Rattle.ill_schema.proofs.Tags.{is_proper, is_proper_row, is_tagged, Mem, same_tag-refl, tables_proper, at_row}
use Rattle.std.proofs.lemmas.Bool.{and_parts}
use Rattle.ill_schema.proofs.Unique.{means_begins, matches_begins, no_leaf, no_any_leaf, proper_untagged, sequence_apart}
use Rattle.ill_refusals.proofs.Rows.{AreRead, starting, starting_some, same_tag-is, sequence_read, tables_started, are_started, same_tags, same_tags-is, tag_at, next_after-more, due-found}
use Rattle.ber_tree.proofs.Lists.{two_cases}
use Rattle.ill_refusals.proofs.WholeElements.{IsElement, IsProper, IsProperComponent, is_carried, component_of, start_element, start_value, start_proper}

abbrev pub AllProper : Profile → List Component → Type 0
AllProper p [] = Unit {0}
AllProper p (c ∷ cs) = IsProperComponent p c × AllProper p cs

abbrev pub IsProperNext : Profile → Next → Type 0
IsProperNext p (rows cs) = AllProper p cs
IsProperNext p (items c) = IsProperComponent p c
IsProperNext p (either c) = IsProper p (loose_wrapper c)
IsProperNext p (segments t) = Unit {0}
IsProperNext p (anything c) = (c.presence ≡ Presence.Must) × (c.tagging ≡ untagged) × (kind_of c.node ≡ Kind.Any)
IsProperNext p (foreigns n) = Unit {0}

abbrev is_carried_row : Profile → Row → Bool
is_carried_row p row = is_tagged (tagging p row) || is_carried row.presence

at_carried : (f : ℕ → Bool) (b : Bool) (l : ℕ) (full : Bool) (node : NodeId) → IsTrue (list_all (is_carried_row (record { general = f; bare = b; limit = l; full = full })) (rows_of node))
at_carried f true l full Boolean = refl
at_carried f true l full _ = refl
at_carried f false l full Boolean = refl
at_carried f false l full _ = refl

-- the component of a row
pub row_proper : (node : NodeId) (n : ℕ) (row : Row) → slice_get (rows_of node) n ≡ Some row → IsProperComponent profile_two (component_of profile_two node n row)
row_proper node n row e = record {
  proper = at_row (is_proper_row profile_two) (rows_of node) n row (tables_proper profile_two node) e;
  carried = at_row (is_carried_row profile_two) (rows_of node) n row (at_carried profile_two.general profile_two.bare profile_two.limit profile_two.full node) e;
}

rows_proper : (p : Profile) (node : NodeId) (n : ℕ) (rs : List Row) → IsTrue (list_all (is_proper_row p) rs) → IsTrue (list_all (is_carried_row p) rs) → AllProper p (components_from p node n rs)
rows_proper p node n [] h k = tt
rows_proper p node n (row ∷ rs) h k =
    let a = and_parts (is_proper_row p row) (list_all (is_proper_row p) rs) h in
    let b = and_parts (is_carried_row p row) (list_all (is_carried_row p) rs) k in
    (record { proper = a.0; carried = b.0 }, rows_proper p node (n + 1) rs a.1 b.1)

pub components_proper : (p : Profile) (node : NodeId) → AllProper p (components p node)
components_proper p node = rows_proper p node 0 (rows_of node) (tables_proper p node) (at_carried p.general p.bare p.limit p.full node)

pub inner_proper : (p : Profile) (c : Component) → c.presence ≡ Presence.Must → c.tagging ≡ untagged → (kind_of c.node ≡ Kind.Any → ⊥) → IsProperComponent p c
inner_proper p c e f n = record {
  proper = subst (λ g. IsTrue (is_proper g (kind_of c.node))) (sym f) (proper_untagged (kind_of c.node) n);
  carried = rw (e, f) refl;
}

-- where the element that is due was found
abbrev IsFound : Profile → Tag → Due → Type 0
IsFound p t (part c e n) = (s : Start) × (starting t (starts p c) ≡ Some s) × (s.element ≡ e) × IsProperComponent p c × IsProperNext p n
IsFound p t (octets u) = t ≡ u
IsFound p t (any n next) = IsProperNext p next

-- what is due, by what was found
abbrev pub in_body : Profile → Tag → Component → List Component → Option Start → Option Due
in_body p t c cs o = elim o as (λ _. Option Due) [ Some s ↦ Some (part c s.element (rows cs)) | None ↦ elim c.presence as (λ _. Option Due) [ Presence.Must ↦ None | _ ↦ due_in p t cs ] ]

abbrev items_body : Component → Option Start → Option Due
items_body c o = elim o as (λ _. Option Due) [ Some s ↦ Some (part c s.element (items c)) | None ↦ None ]

found_in : (p : Profile) (t : Tag) (cs : List Component) (d : Due) → AllProper p cs → due_in p t cs ≡ Some d → IsFound p t d
found_in p t [] d ok h = absurd cc
found_in p t (c ∷ cs) d ok h = found (λ q. found_in p t cs d ok.1 q) (start_of p t c) refl
  where
    skipped : (pr : Presence) → elim pr as (λ _. Option Due) [ Presence.Must ↦ None | _ ↦ due_in p t cs ] ≡ Some d → due_in p t cs ≡ Some d
    skipped Presence.Must e = absurd cc
    skipped Presence.May e = e
    skipped (Presence.Default x) e = e
    skipped Presence.LeftOut e = e

    found : (due_in p t cs ≡ Some d → IsFound p t d) → (o : Option Start) → start_of p t c ≡ o → IsFound p t d
    found later (Some s) e =
        let q : Some (part c s.element (rows cs)) ≡ Some d = sym (ap (in_body p t c cs) e) ∙ h in
        let r : part c s.element (rows cs) ≡ d = cc in
        subst (λ x. IsFound p t x) r (s, e, refl, ok.0, ok.1)
    found later None e = later (skipped c.presence (sym (ap (in_body p t c cs) e) ∙ h))

due_found : (p : Profile) (t : Tag) (n : Next) (d : Due) → IsProperNext p n → due p t n ≡ Some d → IsFound p t d
due_found p t (rows cs) d ok h = found_in p t cs d ok h
due_found p t (items c) d ok h = found (start_of p t c) refl
  where
    found : (o : Option Start) → start_of p t c ≡ o → IsFound p t d
    found (Some s) e =
        let q : Some (part c s.element (items c)) ≡ Some d = sym (ap (items_body c) e) ∙ h in
        let r : part c s.element (items c) ≡ d = cc in
        subst (λ x. IsFound p t x) r (s, e, refl, ok, ok)
    found None e = absurd (let q : None ≡ Some d = sym (ap (items_body c) e) ∙ h in cc)
due_found p t (either c) d ok h = elim (two_cases (same_tag t sequence_tag)) [
  | inl e ↦ found_in p t (c ∷ []) d (inner_proper p c ok.0 ok.1 (λ q. let z : Kind.Seq ≡ Kind.Any = sym ok.2 ∙ q in cc), tt) (sym (ap (λ b. elim b as (λ _. Option Due) [ true ↦ due_in p t (c ∷ []) | false ↦ due_in p t (components p c.node) ]) e) ∙ h)
  | inr e ↦ found_in p t (components p c.node) d (components_proper p c.node) (sym (ap (λ b. elim b as (λ _. Option Due) [ true ↦ due_in p t (c ∷ []) | false ↦ due_in p t (components p c.node) ]) e) ∙ h)
]
due_found p t (anything c) d ok h = let q : Some (any (foreign_levels - 1) (rows [])) ≡ Some d = h in let r : any (foreign_levels - 1) (rows []) ≡ d = cc in subst (λ x. IsFound p t x) r tt
due_found p t (foreigns zero) d ok h = absurd (let q : None ≡ Some d = h in cc)
due_found p t (foreigns (suc n)) d ok h = let q : Some (any n (foreigns (suc n))) ≡ Some d = h in let r : any n (foreigns (suc n)) ≡ d = cc in subst (λ x. IsFound p t x) r tt
due_found p t (segments u) d ok h = elim (two_cases (same_tag t u)) [
  | inl e ↦ let q : Some (octets u) ≡ Some d = sym (ap (λ (b : Bool). if b then Some (octets u) else None) e) ∙ h in let r : octets u ≡ d = cc in subst (λ x. IsFound p t x) r (same_tag-is t u e)
  | inr e ↦ absurd (let q : None ≡ Some d = sym (ap (λ (b : Bool). if b then Some (octets u) else None) e) ∙ h in cc)
]

-- a whole tree of what is due is a whole element of its sort
pub due_element : (p : Profile) (n : Next) (d : Due) (T : Tree) → IsProperNext p n → due p (tag_of T) n ≡ Some d → IsWhole p d T → IsElement p (element_of d) T
due_element p n (part c e nx) T ok h w =
    let f : IsFound p (tag_of T) (part c e nx) = due_found p (tag_of T) n (part c e nx) ok h in
    subst (λ x. IsElement p x T) f.2 (start_element p c f.0 w.1.0 T f.3 f.1 w.0 w.1.1)
due_element p n (octets u) T ok h w = w
due_element p n (any m nx) T ok h w = w

pub due_whole : (p : Profile) (n : Next) (d : Due) (T : Tree) → IsProperNext p n → due p (tag_of T) n ≡ Some d → IsElement p (element_of d) T → IsWhole p d T
due_whole p n (part c e nx) T ok h w =
    let f : IsFound p (tag_of T) (part c e nx) = due_found p (tag_of T) n (part c e nx) ok h in
    start_value p c f.0 T f.3 f.1 (subst (λ x. IsElement p x T) (sym f.2) w)
due_whole p n (octets u) T ok h w = w
due_whole p n (any m nx) T ok h w = w

pub due_proper : (p : Profile) (t : Tag) (n : Next) (d : Due) → IsProperNext p n → due p t n ≡ Some d → IsProper p (element_of d) × IsProperNext p (next_of d)
due_proper p t n (part c e nx) ok h =
    let f : IsFound p t (part c e nx) = due_found p t n (part c e nx) ok h in
    (subst (λ x. IsProper p x) f.2 (start_proper p c t f.0 f.3 f.1), f.4)
due_proper p t n (octets u) ok h = (tt, tt)
due_proper p t n (any m nx) ok h = (tt, due_found p t n (any m nx) ok h)

abbrev first_items : List Component → Next
first_items cs = elim cs as (λ _. Next) [ [] ↦ rows [] | c ∷ _ ↦ items c ]

first_proper : (p : Profile) (cs : List Component) → AllProper p cs → IsProperNext p (first_items cs)
first_proper p [] h = tt
first_proper p (c ∷ cs) h = h.0

pub opening_proper : (p : Profile) (e : Element) → IsProper p e → IsProperNext p (opening p e)
opening_proper p (leaf l) h = tt
opening_proper p (sequence node) h = components_proper p node
opening_proper p (list node) h = first_proper p (components p node) (components_proper p node)
opening_proper p (wrapper c) h = go (kind_of c.node) refl
  where
    go : (k : Kind) → kind_of c.node ≡ k → IsProperNext p (elim k as (λ _. Next) [ Kind.Any ↦ anything c | _ ↦ rows (c ∷ []) ])
    go Kind.Any e = (h.0, h.1, e)
    go Kind.Seq e = (inner_proper p c h.0 h.1 (λ q. let z : Kind.Seq ≡ Kind.Any = sym e ∙ q in cc), tt)
    go Kind.SeqOf e = (inner_proper p c h.0 h.1 (λ q. let z : Kind.SeqOf ≡ Kind.Any = sym e ∙ q in cc), tt)
    go Kind.Choice e = (inner_proper p c h.0 h.1 (λ q. let z : Kind.Choice ≡ Kind.Any = sym e ∙ q in cc), tt)
    go Kind.IllString e = (inner_proper p c h.0 h.1 (λ q. let z : Kind.IllString ≡ Kind.Any = sym e ∙ q in cc), tt)
    go (Kind.Leaf l) e = (inner_proper p c h.0 h.1 (λ q. let z : Kind.Leaf l ≡ Kind.Any = sym e ∙ q in cc), tt)
opening_proper p (loose_wrapper c) h = h
opening_proper p (segment u) h = tt
opening_proper p (foreign n) h = tt
opening_proper p (left_out x) h = tt

pub after_proper : (p : Profile) (n : Next) (ts : Trees) → IsProperNext p n → IsProperNext p (next_after p n ts)
after_proper p n none h = h
after_proper p n (more T ts) h = go (λ d q. after_proper p (next_of d) ts q) (due p (tag_of T) n) refl
  where
    go : ((d : Due) → IsProperNext p (next_of d) → IsProperNext p (next_after p (next_of d) ts)) → (o : Option Due) → due p (tag_of T) n ≡ o → IsProperNext p (elim o as (λ _. Next) [ Some d ↦ next_after p (next_of d) ts | None ↦ n ])
    go later (Some d) e = later d ((due_proper p (tag_of T) n d h e).1)
    go later None e = h

-- a skipped row's entry: none, or its default
pub same_simple : (k : Kind) (x : ℤ) → same_value (default_value k x) (default_value k x) ≡ true
same_simple (Kind.Leaf LeafKind.Boolean) x = same_flag (int_eq x (pos 1))
  where
    same_flag : (b : Bool) → same_value (flag b) (flag b) ≡ true
    same_flag true = refl
    same_flag false = refl
same_simple (Kind.Leaf LeafKind.Integer) x = (signed_Decides x x).1 refl
same_simple (Kind.Leaf LeafKind.Enumerated) x = (signed_Decides x x).1 refl
same_simple (Kind.Leaf LeafKind.Date) x = (signed_Decides x x).1 refl
same_simple (Kind.Leaf LeafKind.Time) x = (signed_Decides x x).1 refl
same_simple (Kind.Leaf LeafKind.Printable) x = (signed_Decides x x).1 refl
same_simple (Kind.Leaf LeafKind.Null) x = (signed_Decides x x).1 refl
same_simple (Kind.Leaf LeafKind.ObjectIdentifier) x = (signed_Decides x x).1 refl
same_simple (Kind.Leaf LeafKind.OctetString) x = (signed_Decides x x).1 refl
same_simple (Kind.Leaf LeafKind.BitString) x = (signed_Decides x x).1 refl
same_simple (Kind.Leaf LeafKind.ObjectDescriptor) x = (signed_Decides x x).1 refl
same_simple Kind.Seq x = (signed_Decides x x).1 refl
same_simple Kind.SeqOf x = (signed_Decides x x).1 refl
same_simple Kind.Choice x = (signed_Decides x x).1 refl
same_simple Kind.IllString x = (signed_Decides x x).1 refl
same_simple Kind.Any x = (signed_Decides x x).1 refl

entry_skip : (p : Profile) (row : Row) (rs : List Row) (ts : Trees) → (row.presence ≡ Presence.Must → ⊥) → ((es : Entries) × Matches p es rs ts) → (es : Entries) × Matches p es (row ∷ rs) ts
entry_skip p row rs ts n m = skipped row.presence refl n
  where
    skipped : (pr : Presence) → row.presence ≡ pr → (pr ≡ Presence.Must → ⊥) → (es : Entries) × Matches p es (row ∷ rs) ts
    skipped Presence.Must e n = absurd (n refl)
    skipped Presence.May e n = (absent m.0, (subst MayLack (sym e) tt, m.1))
    skipped Presence.LeftOut e n = (absent m.0, (subst MayLack (sym e) tt, m.1))
    skipped (Presence.Default x) e n =
        (present (simple (default_value (kind_of row.node) x)) m.0, (subst IsCarried (sym e) tt, inr (subst (λ pr. IsTrue (is_default_of pr (kind_of row.node) (simple (default_value (kind_of row.node) x)))) (sym e) (same_simple (kind_of row.node) x), m.1)))

pub first_none : (c : Component) (cs : List Component) → first_mandatory (c ∷ cs) ≡ None → (c.presence ≡ Presence.Must → ⊥) × (first_mandatory cs ≡ None)
first_none c cs h = go c.presence refl
  where
    go : (pr : Presence) → c.presence ≡ pr → (c.presence ≡ Presence.Must → ⊥) × (first_mandatory cs ≡ None)
    go Presence.Must e = absurd (let q : Some c.part ≡ None = sym (ap (λ x. elim x as (λ _. Option PartId) [ Presence.Must ↦ Some c.part | _ ↦ first_mandatory cs ]) e) ∙ h in cc)
    go Presence.May e = ((λ f. let q : Presence.May ≡ Presence.Must = sym e ∙ f in cc), sym (ap (λ x. elim x as (λ _. Option PartId) [ Presence.Must ↦ Some c.part | _ ↦ first_mandatory cs ]) e) ∙ h)
    go (Presence.Default d) e = ((λ f. let q : Presence.Default d ≡ Presence.Must = sym e ∙ f in cc), sym (ap (λ x. elim x as (λ _. Option PartId) [ Presence.Must ↦ Some c.part | _ ↦ first_mandatory cs ]) e) ∙ h)
    go Presence.LeftOut e = ((λ f. let q : Presence.LeftOut ≡ Presence.Must = sym e ∙ f in cc), sym (ap (λ x. elim x as (λ _. Option PartId) [ Presence.Must ↦ Some c.part | _ ↦ first_mandatory cs ]) e) ∙ h)

-- what is read one after another: the first tree is at the first component, or that one is passed over
pub data FirstRead (p : Profile) (c : Component) (cs : List Component) (T : Tree) (us : Trees) : Type 0 where
  here : IsCarried c.presence → (v : Content) → Means p v c.node c.tagging T → AreRead p (rows cs) us → FirstRead p c cs T us
  behind : (c.presence ≡ Presence.Must → ⊥) → AreRead p (rows cs) (more T us) → FirstRead p c cs T us

first_read : (p : Profile) (c : Component) (cs : List Component) (T : Tree) (us : Trees) → AreRead p (rows (c ∷ cs)) (more T us) → FirstRead p c cs T us
first_read p c cs T us h = found (start_of p (tag_of T) c) refl
  where
    complete : missing p (next_after p (next_of h.whole.0) us) ≡ None
    complete = sym (ap (missing p) (next_after-more p (rows (c ∷ cs)) T us h.whole.0 h.whole.1)) ∙ h.complete

    skipped : (pr : Presence) → c.presence ≡ pr → elim pr as (λ _. Option Due) [ Presence.Must ↦ None | _ ↦ due_in p (tag_of T) cs ] ≡ Some h.whole.0
        → (c.presence ≡ Presence.Must → ⊥) × (due_in p (tag_of T) cs ≡ Some h.whole.0)
    skipped Presence.Must f e = absurd cc
    skipped Presence.May f e = ((λ g. let q : Presence.May ≡ Presence.Must = sym f ∙ g in cc), e)
    skipped (Presence.Default x) f e = ((λ g. let q : Presence.Default x ≡ Presence.Must = sym f ∙ g in cc), e)
    skipped Presence.LeftOut f e = ((λ g. let q : Presence.LeftOut ≡ Presence.Must = sym f ∙ g in cc), e)

    at : (d : Due) (s : Start) → part c s.element (rows cs) ≡ d → IsWhole p d T → AreWhole p (next_of d) us → missing p (next_after p (next_of d) us) ≡ None → FirstRead p c cs T us
    at d s e w a m =
        let w2 : IsWhole p (part c s.element (rows cs)) T = subst (λ x. IsWhole p x T) (sym e) w in
        here w2.0 w2.1.0 w2.1.1 (record { whole = subst (λ x. AreWhole p (next_of x) us) (sym e) a; complete = ap (λ x. missing p (next_after p (next_of x) us)) e ∙ m })

    found : (o : Option Start) → start_of p (tag_of T) c ≡ o → FirstRead p c cs T us
    found (Some s) e =
        let q : Some (part c s.element (rows cs)) ≡ Some h.whole.0 = sym (ap (in_body p (tag_of T) c cs) e) ∙ h.whole.1 in
        let r : part c s.element (rows cs) ≡ h.whole.0 = cc in
        at h.whole.0 s r h.whole.2 h.whole.3 complete
    found None e =
        let q = skipped c.presence refl (sym (ap (in_body p (tag_of T) c cs) e) ∙ h.whole.1) in
        behind q.0 (record { whole = (h.whole.0, q.1, h.whole.2, h.whole.3); complete = ap (missing p) (next_after-more p (rows cs) T us h.whole.0 q.1) ∙ complete })

-- what is read in a sequence from a position on, with nothing missing at its end, matches the rows from there
read_matches : (p : Profile) (node : NodeId) (n : ℕ) (rs : List Row) (ts : Trees) → AreRead p (rows (components_from p node n rs)) ts → (es : Entries) × Matches p es rs ts
read_matches p node n [] none h = (no_entries, refl)
read_matches p node n [] (more T us) h = absurd (let q : None ≡ Some h.whole.0 = h.whole.1 in cc)
read_matches p node n (row ∷ rs) none h =
    let q = first_none (component_of p node n row) (components_from p node (n + 1) rs) h.complete in
    entry_skip p row rs none q.0 (read_matches p node (n + 1) rs none (record { whole = tt; complete = q.1 }))
read_matches p node n (row ∷ rs) (more T us) h = elim (first_read p (component_of p node n row) (components_from p node (n + 1) rs) T us h) [
  | here i v m r ↦ let x = read_matches p node (n + 1) rs us r in (present v x.0, (i, inl (T, us, refl, m, x.1)))
  | behind f r ↦ entry_skip p row rs (more T us) f (read_matches p node (n + 1) rs (more T us) r)
]

-- segments
segments_read : (p : Profile) (u : Tag) (ts : Trees) → AreSegments u ts → AreRead p (segments u) ts
segments_read p u none h = record { whole = tt; complete = refl }
segments_read p u (more T ts) h =
    let r = segments_read p u ts h.2 in
    let e : due p (tag_of T) (segments u) ≡ Some (octets u) =
    ap (λ t. if same_tag t u then Some (octets u) else None) h.0 ∙ ap (λ (b : Bool). if b then Some (octets u) else None) (same_tag-refl u) in
    record { whole = (octets u, e, h.1, r.whole); complete = ap (missing p) (next_after-more p (segments u) T ts (octets u) e) ∙ r.complete }

read_segments : (p : Profile) (u : Tag) (ts : Trees) → AreWhole p (segments u) ts → AreSegments u ts
read_segments p u none h = tt
read_segments p u (more T ts) h = elim (two_cases (same_tag (tag_of T) u)) [
  | inl e ↦
      let q : Some (octets u) ≡ Some h.0 = sym (ap (λ (b : Bool). if b then Some (octets u) else None) e) ∙ h.1 in
      let r : h.0 ≡ octets u = cc in
      (same_tag-is (tag_of T) u e, subst (λ d. IsWhole p d T) r h.2, read_segments p u ts (subst (λ d. AreWhole p (next_of d) ts) r h.3))
  | inr e ↦ absurd (let q : None ≡ Some h.0 = sym (ap (λ (b : Bool). if b then Some (octets u) else None) e) ∙ h.1 in cc)
]

carried_is : (pr : Presence) → IsTrue (is_carried pr) → IsCarried pr
carried_is Presence.Must h = tt
carried_is Presence.May h = tt
carried_is (Presence.Default d) h = tt
carried_is Presence.LeftOut h = absurd cc

-- the items of a list
items_read : (p : Profile) (node : NodeId) (row : Row) (rs : List Row) (is : Items) (ts : Trees) → IsTrue (is_carried row.presence) → IsTrue (is_proper_row p row)
    → map tag_at (starts p (component_of p node 0 row)) ≡ row_tags p row → MatchItems p is (row ∷ rs) ts → AreRead p (items (component_of p node 0 row)) ts
items_read p node row rs no_items ts i ok same h = subst (λ z. AreRead p (items (component_of p node 0 row)) z) (sym h) (record { whole = tt; complete = refl })
items_read p node row rs (item c is) ts i ok same h =
    let C = component_of p node 0 row in
    let q : Some row ≡ Some h.0 = h.3 in
    let e : h.0 ≡ row = cc in
    let m : Means p c row.node (tagging p row) h.1 = subst (λ x. Means p c x.node (tagging p x) h.1) e h.5 in
    let f = starting_some (tag_of h.1) (starts p C) (subst (λ z. Mem (tag_of h.1) z) (sym same) (means_begins p c row.node (tagging p row) h.1 ok m)) in
    let g : due p (tag_of h.1) (items C) ≡ Some (part C f.0.element (items C)) = ap (items_body C) f.1 in
    let r = items_read p node row rs is h.2 i ok same h.6 in
    subst (λ z. AreRead p (items C) z) (sym h.4) (record {
      whole = (part C f.0.element (items C), g, (carried_is row.presence i, (c, m)), r.whole);
      complete = ap (missing p) (next_after-more p (items C) h.1 h.2 (part C f.0.element (items C)) g) ∙ r.complete;
    })

list_read : (p : Profile) (node : NodeId) (rs : List Row) (is : Items) (ts : Trees) → IsTrue (list_all (λ (row : Row). is_carried row.presence) rs) → IsTrue (list_all (is_proper_row p) rs)
    → IsTrue (are_started p node 0 rs) → MatchItems p is rs ts → AreRead p (first_items (components_from p node 0 rs)) ts
list_read p node [] no_items ts i ok s h = subst (λ z. AreRead p (rows []) z) (sym h) (record { whole = tt; complete = refl })
list_read p node [] (item c is) ts i ok s h = absurd (let q : None ≡ Some h.0 = h.3 in cc)
list_read p node (row ∷ rs) is ts i ok s h =
    items_read p node row rs is ts ((and_parts (is_carried row.presence) _ i).0) ((and_parts (is_proper_row p row) _ ok).0) (same_tags-is _ _ ((and_parts _ _ s).0)) h

read_items : (p : Profile) (node : NodeId) (row : Row) (rs : List Row) (n : ℕ) (ts : Trees) → AreWhole p (items (component_of p node n row)) ts → (is : Items) × MatchItems p is (row ∷ rs) ts
read_items p node row rs n none h = (no_items, refl)
read_items p node row rs n (more T ts) h = found (λ r. read_items p node row rs n ts r) (start_of p (tag_of T) (component_of p node n row)) refl
  where
    found : (AreWhole p (items (component_of p node n row)) ts → (is : Items) × MatchItems p is (row ∷ rs) ts) → (o : Option Start) → start_of p (tag_of T) (component_of p node n row) ≡ o
        → (is : Items) × MatchItems p is (row ∷ rs) (more T ts)
    found later (Some s) e =
        let C = component_of p node n row in
        let q : Some (part C s.element (items C)) ≡ Some h.0 = sym (ap (items_body C) e) ∙ h.1 in
        let r : h.0 ≡ part C s.element (items C) = cc in
        let w : IsWhole p (part C s.element (items C)) T = subst (λ d. IsWhole p d T) r h.2 in
        let x = later (subst (λ d. AreWhole p (next_of d) ts) r h.3) in
        (item w.1.0 x.0, (row, T, ts, refl, refl, w.1.1, x.1))
    found later None e = absurd (let q : None ≡ Some h.0 = sym (ap (items_body (component_of p node n row)) e) ∙ h.1 in cc)

read_list : (p : Profile) (node : NodeId) (rs : List Row) (ts : Trees) → AreWhole p (first_items (components_from p node 0 rs)) ts → (is : Items) × MatchItems p is rs ts
read_list p node [] none h = (no_items, refl)
read_list p node [] (more T ts) h = absurd (let q : None ≡ Some h.0 = h.1 in cc)
read_list p node (row ∷ rs) ts h = read_items p node row rs 0 ts h

abbrev are_items : Kind → List Row → Bool
are_items k rs = elim k as (λ _. Bool) [ Kind.SeqOf ↦ list_all (λ (row : Row). is_carried row.presence) rs | _ ↦ true ]

all_items : (node : NodeId) → IsTrue (are_items (kind_of node) (rows_of node))
all_items Boolean = refl
all_items _ = refl

items_carried : (node : NodeId) → kind_of node ≡ Kind.SeqOf → IsTrue (list_all (λ (row : Row). is_carried row.presence) (rows_of node))
items_carried node e = subst (λ k. IsTrue (are_items k (rows_of node))) e (all_items node)

-- what an explicit tag is round begins by the tags of its node
abbrev untagged_component : PartId → Presence → Tagging → NodeId → Component
untagged_component x pr g node = record { part = x; presence = pr; tagging = g; node = node }

at_inner : (f : ℕ → Bool) (b : Bool) (l : ℕ) (full : Bool) (x : PartId) (node : NodeId)
    → IsTrue (same_tags (map tag_at (starts (record { general = f; bare = b; limit = l; full = full }) (untagged_component x Presence.Must untagged node))) (node_tags (record { general = f; bare = b; limit = l; full = full }) node))
at_inner f true l full x Boolean = refl
at_inner f true l full x _ = refl
at_inner f false l full x Boolean = refl
at_inner f false l full x _ = refl

pub inner_tags : (p : Profile) (c : Component) → c.presence ≡ Presence.Must → c.tagging ≡ untagged → map tag_at (starts p c) ≡ node_tags p c.node
inner_tags p c e f =
    ap₂ (λ (pr : Presence) (g : Tagging). map tag_at (starts p (untagged_component c.part pr g c.node))) e f ∙ same_tags-is _ _ (at_inner p.general p.bare p.limit p.full c.part c.node)

wrapped_read : (p : Profile) (c : Component) (U : Tree) (v : Content) → c.presence ≡ Presence.Must → c.tagging ≡ untagged → (kind_of c.node ≡ Kind.Any → ⊥) → Means p v c.node untagged U → AreRead p (rows (c ∷ [])) (more U none)
wrapped_read p c U v e f n m =
    let s = starting_some (tag_of U) (starts p c) (subst (λ z. Mem (tag_of U) z) (sym (inner_tags p c e f)) (means_begins p v c.node untagged U (proper_untagged (kind_of c.node) n) m)) in
    let d = due-found p (tag_of U) c [] s.0 s.1 in
    record {
      whole = (part c s.0.element (rows []), d, (subst IsCarried (sym e) tt, (v, subst (λ g. Means p v c.node g U) (sym f) m)), tt);
      complete = ap (missing p) (next_after-more p (rows (c ∷ [])) U none (part c s.0.element (rows [])) d);
    }

read_wrapped : (p : Profile) (c : Component) (t : Tag) (ts : Trees) → c.presence ≡ Presence.Must → c.tagging ≡ untagged → AreRead p (rows (c ∷ [])) ts
    → (tag : Tag) × (U : Tree) × (constructed t ts ≡ constructed tag (more U none)) × ((v : Content) × Means p v c.node untagged U)
read_wrapped p c t none e f h = absurd ((first_none c [] h.complete).0 e)
read_wrapped p c t (more U us) e f h = elim (first_read p c [] U us h) [
  | here i v m r ↦ (t, U, ap (λ z. constructed t (more U z)) (no_more us r.whole), (v, subst (λ g. Means p v c.node g U) f m))
  | behind n r ↦ absurd (n e)
]
  where
    no_more : (us : Trees) → AreWhole p (rows []) us → us ≡ none
    no_more none w = refl
    no_more (more V vs) w = absurd (let q : None ≡ Some w.0 = w.1 in cc)

-- an element of open type, and the elements in it
foreigns_read : (p : Profile) (n : ℕ) (ts : Trees) → IsTrue (are_foreign n ts) → AreRead p (foreigns n) ts
foreigns_read p n none h = record { whole = tt; complete = refl }
foreigns_read p zero (more T ts) h = absurd (let q : false ≡ true = (and_parts (is_foreign zero T) (are_foreign zero ts) h).0 in cc)
foreigns_read p (suc n) (more T ts) h =
    let a = and_parts (is_foreign (suc n) T) (are_foreign (suc n) ts) h in
    let r = foreigns_read p (suc n) ts a.1 in
    record { whole = (any n (foreigns (suc n)), refl, a.0, r.whole); complete = ap (missing p) (next_after-more p (foreigns (suc n)) T ts (any n (foreigns (suc n))) refl) ∙ r.complete }

read_foreigns : (p : Profile) (n : ℕ) (ts : Trees) → AreWhole p (foreigns n) ts → IsTrue (are_foreign n ts)
read_foreigns p n none h = refl
read_foreigns p zero (more T ts) h = absurd (let q : None ≡ Some h.0 = h.1 in cc)
read_foreigns p (suc n) (more T ts) h =
    let q : Some (any n (foreigns (suc n))) ≡ Some h.0 = h.1 in
    let r : h.0 ≡ any n (foreigns (suc n)) = cc in
    both _ _ (subst (λ d. IsWhole p d T) r h.2) (read_foreigns p (suc n) ts (subst (λ d. AreWhole p (next_of d) ts) r h.3))

anything_read : (p : Profile) (c : Component) (U : Tree) → IsTrue (is_foreign 20 U) → AreRead p (anything c) (more U none)
anything_read p c U h = record { whole = (any (foreign_levels - 1) (rows []), refl, h, tt); complete = refl }

read_anything : (p : Profile) (c : Component) (t : Tag) (ts : Trees) → kind_of c.node ≡ Kind.Any → AreRead p (anything c) ts
    → (tag : Tag) × (U : Tree) × (constructed t ts ≡ constructed tag (more U none)) × ((v : Content) × Means p v c.node untagged U)
read_anything p c t none e h = absurd (let q : Some c.part ≡ None = h.complete in cc)
read_anything p c t (more U us) e h =
    let w = h.whole in
    let q : Some (any (foreign_levels - 1) (rows [])) ≡ Some w.0 = w.1 in
    let r : w.0 ≡ any (foreign_levels - 1) (rows []) = cc in
    let i : IsTrue (is_foreign 20 U) = subst (λ d. IsWhole p d U) r w.2 in
    (t, U, ap (λ z. constructed t (more U z)) (no_more us (subst (λ d. AreWhole p (next_of d) us) r w.3)), (content.foreign U, (e, (refl, i))))
  where
    no_more : (us : Trees) → AreWhole p (rows []) us → us ≡ none
    no_more none w = refl
    no_more (more V vs) w = absurd (let q : None ≡ Some w.0 = w.1 in cc)

any_foreign : (p : Profile) (v : Content) (node : NodeId) (U : Tree) → kind_of node ≡ Kind.Any → Means p v node untagged U → IsTrue (is_foreign 20 U)
any_foreign p (content.foreign V) node U e m = m.1.1
any_foreign p (simple w) node U e m = absurd (no_any_leaf (kind_of node) w m.0 m.1 e)
any_foreign p (content.sequence es) node U e m = absurd (let q : Kind.Any ≡ Kind.Seq = sym e ∙ m.0 in cc)
any_foreign p (content.list is) node U e m = absurd (let q : Kind.Any ≡ Kind.SeqOf = sym e ∙ m.0 in cc)
any_foreign p (alternative n w) node U e m = absurd (let q : Kind.Any ≡ Kind.Choice = sym e ∙ m.1.0 in cc)

-- what an explicit tag is round, an element of open type or another
wrapper_read : (p : Profile) (c : Component) (U : Tree) (v : Content) → c.presence ≡ Presence.Must → c.tagging ≡ untagged → Means p v c.node untagged U → AreRead p (opening p (wrapper c)) (more U none)
wrapper_read p c U v e f m = go (kind_of c.node) refl
  where
    go : (k : Kind) → kind_of c.node ≡ k → AreRead p (elim k as (λ _. Next) [ Kind.Any ↦ anything c | _ ↦ rows (c ∷ []) ]) (more U none)
    go Kind.Any q = anything_read p c U (any_foreign p v c.node U q m)
    go Kind.Seq q = wrapped_read p c U v e f (λ r. let z : Kind.Seq ≡ Kind.Any = sym q ∙ r in cc) m
    go Kind.SeqOf q = wrapped_read p c U v e f (λ r. let z : Kind.SeqOf ≡ Kind.Any = sym q ∙ r in cc) m
    go Kind.Choice q = wrapped_read p c U v e f (λ r. let z : Kind.Choice ≡ Kind.Any = sym q ∙ r in cc) m
    go Kind.IllString q = wrapped_read p c U v e f (λ r. let z : Kind.IllString ≡ Kind.Any = sym q ∙ r in cc) m
    go (Kind.Leaf l) q = wrapped_read p c U v e f (λ r. let z : Kind.Leaf l ≡ Kind.Any = sym q ∙ r in cc) m

read_wrapper : (p : Profile) (c : Component) (t : Tag) (ts : Trees) → c.presence ≡ Presence.Must → c.tagging ≡ untagged → AreRead p (opening p (wrapper c)) ts
    → (tag : Tag) × (U : Tree) × (constructed t ts ≡ constructed tag (more U none)) × ((v : Content) × Means p v c.node untagged U)
read_wrapper p c t ts e f h = go (kind_of c.node) refl h
  where
    go : (k : Kind) → kind_of c.node ≡ k → AreRead p (elim k as (λ _. Next) [ Kind.Any ↦ anything c | _ ↦ rows (c ∷ []) ]) ts
        → (tag : Tag) × (U : Tree) × (constructed t ts ≡ constructed tag (more U none)) × ((v : Content) × Means p v c.node untagged U)
    go Kind.Any q h = read_anything p c t ts q h
    go Kind.Seq q h = read_wrapped p c t ts e f h
    go Kind.SeqOf q h = read_wrapped p c t ts e f h
    go Kind.Choice q h = read_wrapped p c t ts e f h
    go Kind.IllString q h = read_wrapped p c t ts e f h
    go (Kind.Leaf l) q h = read_wrapped p c t ts e f h

-- a list of trees is read alike where the same is due
read_alike : (p : Profile) (m n : Next) (T : Tree) (us : Trees) → due p (tag_of T) m ≡ due p (tag_of T) n → AreRead p m (more T us) → AreRead p n (more T us)
read_alike p m n T us e h =
    let q : due p (tag_of T) n ≡ Some h.whole.0 = sym e ∙ h.whole.1 in
    record {
      whole = (h.whole.0, q, h.whole.2, h.whole.3);
      complete = ap (missing p) (next_after-more p n T us h.whole.0 q ∙ sym (next_after-more p m T us h.whole.0 h.whole.1)) ∙ h.complete;
    }

abbrev either_body : Profile → Tag → Component → Bool → Option Due
either_body p t c b = elim b as (λ _. Option Due) [ true ↦ due_in p t (c ∷ []) | false ↦ due_in p t (components p c.node) ]

sequence_begins : (p : Profile) (v : Content) (node : NodeId) (U : Tree) → kind_of node ≡ Kind.Seq → Means p v node untagged U → tag_of U ≡ sequence_tag
sequence_begins p (content.sequence es) node U k m = ap tag_of m.1.1
sequence_begins p (simple w) node U k m = absurd (no_leaf (kind_of node) w m.0 m.1 (inl k))
sequence_begins p (content.list is) node U k m = absurd (let q : Kind.Seq ≡ Kind.SeqOf = sym k ∙ m.0 in cc)
sequence_begins p (alternative n w) node U k m = absurd (let q : Kind.Seq ≡ Kind.Choice = sym k ∙ m.1.0 in cc)
sequence_begins p (content.foreign V) node U k m = absurd (let q : Kind.Seq ≡ Kind.Any = sym k ∙ m.0 in cc)

loose_wrapped_read : (p : Profile) (c : Component) (U : Tree) (v : Content) → IsProper p (loose_wrapper c) → Means p v c.node untagged U → AreRead p (either c) (more U none)
loose_wrapped_read p c U v ok m =
    let e : same_tag (tag_of U) sequence_tag ≡ true = ap (λ t. same_tag t sequence_tag) (sequence_begins p v c.node U ok.2 m) in
    read_alike p (rows (c ∷ [])) (either c) U none (sym (ap (either_body p (tag_of U) c) e)) (wrapped_read p c U v ok.0 ok.1 (λ q. let z : Kind.Seq ≡ Kind.Any = sym ok.2 ∙ q in cc) m)

loose_bare_read : (p : Profile) (c : Component) (es : Entries) (ts : Trees) → IsProper p (loose_wrapper c) → Matches p es (rows_of c.node) ts → AreRead p (either c) ts
loose_bare_read p c es none ok m = record { whole = tt; complete = (sequence_read p c.node es none ok.2 m).complete }
loose_bare_read p c es (more T us) ok m = elim (two_cases (same_tag (tag_of T) sequence_tag)) [
  | inl e ↦ absurd (sequence_apart p c.node ok.2 (subst (λ t. Mem t (flat_map (row_tags p) (rows_of c.node))) (same_tag-is (tag_of T) sequence_tag e)
      (matches_begins p es (rows_of c.node) T us (tables_proper p c.node) m)))
  | inr e ↦ read_alike p (rows (components p c.node)) (either c) T us (sym (ap (either_body p (tag_of T) c) e)) (sequence_read p c.node es (more T us) ok.2 m)
]

read_loose : (p : Profile) (c : Component) (t : Tag) (ts : Trees) → IsProper p (loose_wrapper c) → AreRead p (either c) ts → IsElement p (loose_wrapper c) (constructed t ts)
read_loose p c t none ok h = inr (t, none, refl, read_matches p c.node 0 (rows_of c.node) none (record { whole = tt; complete = h.complete }))
read_loose p c t (more T us) ok h = elim (two_cases (same_tag (tag_of T) sequence_tag)) [
  | inl e ↦ inl (read_wrapped p c t (more T us) ok.0 ok.1 (read_alike p (either c) (rows (c ∷ [])) T us (ap (either_body p (tag_of T) c) e) h))
  | inr e ↦ inr (t, more T us, refl, read_matches p c.node 0 (rows_of c.node) (more T us) (read_alike p (either c) (rows (components p c.node)) T us (ap (either_body p (tag_of T) c) e) h))
]

same_inside : (s t : Tag) (ss ts : Trees) → constructed s ss ≡ constructed t ts → ts ≡ ss
same_inside s t ss ts e = cc

-- a whole element that is constructed is read as its sort opens, and the other way round
pub element_read : (p : Profile) (e : Element) (t : Tag) (ts : Trees) → IsProper p e → IsElement p e (constructed t ts)
    → AreRead p (opening p e) ts × (allows e true ≡ true) × (string_fault p e ts ≡ None)
element_read p (leaf l) t ts ok h = (segments_read p (segment_tag l) ts h.0.1, h.0.0, h.2)
element_read p (sequence node) t ts ok h = (sequence_read p node h.3.0 ts ok (subst (λ z. Matches p h.3.0 (rows_of node) z) (same_inside _ _ _ _ h.2) h.3.1), refl, refl)
element_read p (list node) t ts ok h =
    (list_read p node (rows_of node) h.3.0 ts (items_carried node ok) (tables_proper p node) (tables_started p node) (subst (λ z. MatchItems p h.3.0 (rows_of node) z) (same_inside _ _ _ _ h.2) h.3.1), refl, refl)
element_read p (wrapper c) t ts ok h = (subst (λ z. AreRead p (opening p (wrapper c)) z) (same_inside _ _ _ _ h.2) (wrapper_read p c h.1 h.3.0 ok.0 ok.1 h.3.1), refl, refl)
element_read p (loose_wrapper c) t ts ok (inl h) = (subst (λ z. AreRead p (either c) z) (same_inside _ _ _ _ h.2) (loose_wrapped_read p c h.1 h.3.0 ok h.3.1), refl, refl)
element_read p (loose_wrapper c) t ts ok (inr h) = (subst (λ z. AreRead p (either c) z) (same_inside _ _ _ _ h.2) (loose_bare_read p c h.3.0 h.1 ok h.3.1), refl, refl)
element_read p (segment u) t ts ok h = (segments_read p u ts h, refl, refl)
element_read p (foreign n) t ts ok h = (foreigns_read p n ts (and_parts _ _ h).1, refl, refl)
element_read p (left_out x) t ts ok h = absurd h

pub read_element : (p : Profile) (e : Element) (t : Tag) (ts : Trees) → IsProper p e → allows e true ≡ true → AreRead p (opening p e) ts → string_fault p e ts ≡ None
    → ((l : Leaf) → IsTrue (are_octets (segments_content l ts))) → HasIdentifier t true → IsElement p e (constructed t ts)
read_element p (leaf l) t ts ok a h f o i = ((a, read_segments p (segment_tag l) ts h.whole), o l, f)
read_element p (sequence node) t ts ok a h f o i = (t, ts, refl, read_matches p node 0 (rows_of node) ts h)
read_element p (list node) t ts ok a h f o i = (t, ts, refl, read_list p node (rows_of node) ts h.whole)
read_element p (wrapper c) t ts ok a h f o i = read_wrapper p c t ts ok.0 ok.1 h
read_element p (loose_wrapper c) t ts ok a h f o i = read_loose p c t ts ok h
read_element p (segment u) t ts ok a h f o i = read_segments p u ts h.whole
read_element p (foreign n) t ts ok a h f o i = both _ _ (has_identified t true i) (read_foreigns p n ts h.whole)
read_element p (left_out x) t ts ok a h f o i = absurd cc

-- the same of primitive elements
pub element_primitive : (p : Profile) (e : Element) (t : Tag) (os : List ℕ) → IsElement p e (primitive t os) → (allows e false ≡ true) × (element_fault p e os ≡ None)
element_primitive p (leaf l) t os h = (refl, h.2)
element_primitive p (sequence node) t os h = absurd (let q : primitive t os ≡ constructed h.0 h.1 = h.2 in cc)
element_primitive p (list node) t os h = absurd (let q : primitive t os ≡ constructed h.0 h.1 = h.2 in cc)
element_primitive p (wrapper c) t os h = absurd (let q : primitive t os ≡ constructed h.0 (more h.1 none) = h.2 in cc)
element_primitive p (loose_wrapper c) t os (inl h) = absurd (let q : primitive t os ≡ constructed h.0 (more h.1 none) = h.2 in cc)
element_primitive p (loose_wrapper c) t os (inr h) = absurd (let q : primitive t os ≡ constructed h.0 h.1 = h.2 in cc)
element_primitive p (segment u) t os h = (refl, refl)
element_primitive p (foreign n) t os h = (refl, refl)
element_primitive p (left_out x) t os h = absurd h

pub primitive_element : (p : Profile) (e : Element) (t : Tag) (os : List ℕ) → allows e false ≡ true → element_fault p e os ≡ None → IsTrue (are_octets os) → HasIdentifier t false → IsElement p e (primitive t os)
primitive_element p (leaf l) t os a f o i = (tt, o, f)
primitive_element p (sequence node) t os a f o i = absurd cc
primitive_element p (list node) t os a f o i = absurd cc
primitive_element p (wrapper c) t os a f o i = absurd cc
primitive_element p (loose_wrapper c) t os a f o i = absurd cc
primitive_element p (segment u) t os a f o i = tt
primitive_element p (foreign n) t os a f o i = both _ _ (has_identified t false i) o
primitive_element p (left_out x) t os a f o i = absurd cc
