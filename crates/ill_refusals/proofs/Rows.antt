-- Trees that match the rows of a sequence may be in it one after another, with nothing missing at its end.
use Rattle.std.proofs.Common.{◌≡◌, ◌⊎◌, ℕ, ℤ, pos, ◌+◌, Bool, true, false, ◌&&◌, List, [], ◌∷◌, Option, Some, None, IsTrue, refl, sym, ap, ap₂, subst, ◌∙◌, inl, inr, arith, map, true≢false}
use Rattle.std.specs.Prelude.{flat_map, find, nat_eq}
use Rattle.std.specs.List.{list_all}
use Rattle.std.specs.Ordering.{int_eq}
use Rattle.std.specs.Cmp.{signed_Decides}
use Rattle.ill_tables.specs.declared.node.LeafKind.{LeafKind}
use Rattle.ber_tree.specs.declared.class.Class.{Class}
use Rattle.ber_tree.specs.Identifier.{Tag, class_bits}
use Rattle.ber_tree.proofs.Lists.{two_cases}
use Rattle.ber_tree.specs.Tree.{Tree, Trees, none, more, tag_of}
use Rattle.ill_tables.specs.declared.node.Kind.{Kind}
use Rattle.ill_tables.specs.declared.node.NodeId.{NodeId}
use Rattle.ill_tables.specs.declared.node.NodeId.TheVariants.{Boolean}
use Rattle.ill_tables.specs.declared.part.Presence.{Presence}
use Rattle.ill_tables.specs.declared.part.Row.{Row}
use Rattle.ill_schema.specs.Content.{Content, simple, Entries, no_entries, absent, present}
use Rattle.ber_leaf.specs.Simple.{flag}
use Rattle.ill_refusals.specs.Element.{Component, components, components_from, Start, starts}
use Rattle.ill_schema.specs.Meaning.{Matches}
use Rattle.ill_refusals.specs.Next.{Next, rows, Due, part, due, due_in, start_of, next_of, next_after, missing, IsWhole, AreWhole}
use Rattle.ber_leaf.specs.Profile.{Profile}
use Rattle.ill_schema.specs.Tagging.{tagging, same_tag}
use Rattle.ill_schema.specs.Presence.{is_default, is_default_of, same_value, default_value, MayLack, IsCarried}
use Rattle.ill_tables.specs.Table.{kind_of, rows_of}
use Rattle.ill_schema.specs.TableFacts.{row_tags}
use Rattle.ill_schema.proofs.Tags.{tables_proper, is_proper_row, Mem, Distinct, same_tag-refl, disjoint, distinct-right}
use Rattle.std.proofs.lemmas.Bool.{and_parts}
use Rattle.ill_schema.proofs.Unique.{means_begins, matches_begins, sequence_distinct}

abbrev pub tag_at : Start → Tag
tag_at s = s.tag

abbrev pub same_tags : List Tag → List Tag → Bool
same_tags [] [] = true
same_tags (s ∷ ss) (t ∷ ts) = same_tag s t && same_tags ss ts
same_tags _ _ = false

-- the rows begin by the tags of their components' starts
abbrev pub are_started : Profile → NodeId → ℕ → List Row → Bool
are_started p node n [] = true
are_started p node n (row ∷ rest) = elim (components_from p node n (row ∷ rest)) as (λ _. Bool) [ [] ↦ false | c ∷ _ ↦ same_tags (map tag_at (starts p c)) (row_tags p row) && are_started p node (n + 1) rest ]

at_started : (f : ℕ → Bool) (b : Bool) (l : ℕ) (full : Bool) (node : NodeId) → IsTrue (are_started (record { general = f; bare = b; limit = l; full = full }) node 0 (rows_of node))
at_started f true l full Boolean = refl
at_started f true l full _ = refl
at_started f false l full Boolean = refl
at_started f false l full _ = refl

pub tables_started : (p : Profile) (node : NodeId) → IsTrue (are_started p node 0 (rows_of node))
tables_started p node = at_started p.general p.bare p.limit p.full node

class_same : (c d : Class) → class_bits c ≡ class_bits d → c ≡ d
class_same Class.Universal Class.Universal e = refl
class_same Class.Application Class.Application e = refl
class_same Class.Context Class.Context e = refl
class_same Class.Private Class.Private e = refl
class_same c d e = absurd (omega (arith, e))

pub same_tag-is : (s t : Tag) → same_tag s t ≡ true → s ≡ t
same_tag-is s t h =
    let p = and_parts (nat_eq (class_bits s.class) (class_bits t.class)) (nat_eq s.number t.number) h in
    let a : class_bits s.class ≡ class_bits t.class = grind (arith, p.0) in
    let b : s.number ≡ t.number = grind (arith, p.1) in
    ap₂ (λ (c : Class) (n : ℕ). let x : Tag = record { class = c; number = n } in x) (class_same s.class t.class a) b

pub same_tags-is : (ss ts : List Tag) → IsTrue (same_tags ss ts) → ss ≡ ts
same_tags-is [] [] h = refl
same_tags-is [] (t ∷ ts) h = absurd cc
same_tags-is (s ∷ ss) [] h = absurd cc
same_tags-is (s ∷ ss) (t ∷ ts) h = let p = and_parts (same_tag s t) (same_tags ss ts) h in ap₂ ◌∷◌ (same_tag-is s t p.0) (same_tags-is ss ts p.1)

abbrev pub starting : Tag → List Start → Option Start
starting t ss = find (λ s. same_tag s.tag t) ss

pub starting_some : (t : Tag) (ss : List Start) → Mem t (map tag_at ss) → (s : Start) × (starting t ss ≡ Some s)
starting_some t [] m = absurd m
starting_some t (s ∷ ss) m = elim (two_cases (same_tag s.tag t)) [
  | inl h ↦ (s, rw h refl)
  | inr h ↦ elim m [
    | inl e ↦ absurd (true≢false (sym (same_tag-refl t) ∙ ap (λ x. same_tag x t) e ∙ h))
    | inr k ↦ let r = starting_some t ss k in (r.0, rw h r.1)
  ]
]

pub starting_none : (t : Tag) (ss : List Start) → (Mem t (map tag_at ss) → ⊥) → starting t ss ≡ None
starting_none t [] n = refl
starting_none t (s ∷ ss) n = elim (two_cases (same_tag s.tag t)) [
  | inl h ↦ absurd (n (inl (sym (same_tag-is s.tag t h))))
  | inr h ↦ rw h (starting_none t ss (λ m. n (inr m)))
]

-- a component that may be absent and does not begin by the tag is passed over
pub due-skip : (p : Profile) (t : Tag) (c : Component) (cs : List Component) (pr : Presence) → c.presence ≡ pr → (pr ≡ Presence.Must → ⊥) → start_of p t c ≡ None
    → due_in p t (c ∷ cs) ≡ due_in p t cs
due-skip p t c cs pr e n h =
    ap (λ o. elim o as (λ _. Option Due) [
      | Some s ↦ Some (part c s.element (rows cs))
      | None ↦ elim c.presence as (λ _. Option Due) [ Presence.Must ↦ None | _ ↦ due_in p t cs ]
    ]) h
    ∙ ap (λ x. elim x as (λ _. Option Due) [ Presence.Must ↦ None | _ ↦ due_in p t cs ]) e
    ∙ passed pr n
  where
    passed : (x : Presence) → (x ≡ Presence.Must → ⊥) → elim x as (λ _. Option Due) [ Presence.Must ↦ None | _ ↦ due_in p t cs ] ≡ due_in p t cs
    passed Presence.Must n = absurd (n refl)
    passed Presence.May n = refl
    passed (Presence.Default d) n = refl
    passed Presence.LeftOut n = refl

-- a component that begins by the tag is due
pub due-found : (p : Profile) (t : Tag) (c : Component) (cs : List Component) (s : Start) → start_of p t c ≡ Some s → due_in p t (c ∷ cs) ≡ Some (part c s.element (rows cs))
due-found p t c cs s h =
    ap (λ o. elim o as (λ _. Option Due) [
      | Some x ↦ Some (part c x.element (rows cs))
      | None ↦ elim c.presence as (λ _. Option Due) [ Presence.Must ↦ None | _ ↦ due_in p t cs ]
    ]) h

pub missing-skip : (p : Profile) (c : Component) (cs : List Component) (pr : Presence) → c.presence ≡ pr → (pr ≡ Presence.Must → ⊥) → missing p (rows (c ∷ cs)) ≡ missing p (rows cs)
missing-skip p c cs Presence.Must e n = absurd (n refl)
missing-skip p c cs Presence.May e n = rw e refl
missing-skip p c cs (Presence.Default d) e n = rw e refl
missing-skip p c cs Presence.LeftOut e n = rw e refl

pub next_after-more : (p : Profile) (n : Next) (T : Tree) (ts : Trees) (d : Due) → due p (tag_of T) n ≡ Some d → next_after p n (more T ts) ≡ next_after p (next_of d) ts
next_after-more p n T ts d e = ap (λ o. elim o as (λ _. Next) [ Some x ↦ next_after p (next_of x) ts | None ↦ n ]) e

-- read one after another, with nothing missing at the end
pub record AreRead (p : Profile) (n : Next) (ts : Trees) : Type 0 where
  pub whole : AreWhole p n ts
  pub complete : missing p (next_after p n ts) ≡ None

skip : (p : Profile) (c : Component) (cs : List Component) (ts : Trees) → (c.presence ≡ Presence.Must → ⊥)
    → ((T : Tree) (us : Trees) → ts ≡ more T us → start_of p (tag_of T) c ≡ None) → AreRead p (rows cs) ts → AreRead p (rows (c ∷ cs)) ts
skip p c cs none n h r = record { whole = tt; complete = missing-skip p c cs c.presence refl n ∙ r.complete }
skip p c cs (more T ts) n h r =
    let w = r.whole in
    let e : due p (tag_of T) (rows (c ∷ cs)) ≡ Some w.0 = due-skip p (tag_of T) c cs c.presence refl n (h T ts refl) ∙ w.1 in
    record {
      whole = (w.0, e, w.2, w.3);
      complete = ap (missing p) (next_after-more p (rows (c ∷ cs)) T ts w.0 e) ∙ sym (ap (missing p) (next_after-more p (rows cs) T ts w.0 w.1)) ∙ r.complete;
    }

pub lacks_must : (pr : Presence) → MayLack pr → pr ≡ Presence.Must → ⊥
lacks_must Presence.Must m e = m
lacks_must Presence.May m e = cc
lacks_must (Presence.Default d) m e = m
lacks_must Presence.LeftOut m e = cc

default_must : (pr : Presence) (row : Row) (c : Content) → row.presence ≡ pr → IsTrue (is_default row c) → pr ≡ Presence.Must → ⊥
default_must pr row c f h e =
    let k : IsTrue (is_default_of Presence.Must (kind_of row.node) c) = subst (λ x. IsTrue (is_default_of x (kind_of row.node) c)) (f ∙ e) h in cc

-- what matches the rows from a position on is read there
pub matches_read : (p : Profile) (node : NodeId) (n : ℕ) (es : Entries) (rs : List Row) (ts : Trees) → IsTrue (are_started p node n rs) → IsTrue (list_all (is_proper_row p) rs)
    → Distinct (flat_map (row_tags p) rs) → Matches p es rs ts → AreRead p (rows (components_from p node n rs)) ts
matches_read p node n no_entries [] ts s ok d m = subst (λ z. AreRead p (rows []) z) (sym m) (record { whole = tt; complete = refl })
matches_read p node n no_entries (row ∷ rs) ts s ok d m = absurd m
matches_read p node n (absent es) [] ts s ok d m = absurd m
matches_read p node n (present c es) [] ts s ok d m = absurd m
matches_read p node n (absent es) (row ∷ rs) ts s ok d m =
    let q = and_parts _ _ s in
    let k = and_parts (is_proper_row p row) (list_all (is_proper_row p) rs) ok in
    skip p _ (components_from p node (n + 1) rs) ts (λ e. lacks_must row.presence m.0 e)
    (λ T us e. starting_none (tag_of T) _ (λ x. disjoint (tag_of T) (row_tags p row) (flat_map (row_tags p) rs) d
    (subst (λ z. Mem (tag_of T) z) (same_tags-is _ _ q.0) x) (matches_begins p es rs T us k.1 (subst (λ z. Matches p es rs z) e m.1))))
    (matches_read p node (n + 1) es rs ts q.1 k.1 (distinct-right (row_tags p row) _ d) m.1)
matches_read p node n (present c es) (row ∷ rs) ts s ok d m =
    let q = and_parts _ _ s in
    let k = and_parts (is_proper_row p row) (list_all (is_proper_row p) rs) ok in
    elim m.1 [
      | inl x ↦
          let f = starting_some (tag_of x.0) _ (subst (λ z. Mem (tag_of x.0) z) (sym (same_tags-is _ _ q.0)) (means_begins p c row.node (tagging p row) x.0 k.0 x.3)) in
          let r = matches_read p node (n + 1) es rs x.1 q.1 k.1 (distinct-right (row_tags p row) _ d) x.4 in
          let e = due-found p (tag_of x.0) _ (components_from p node (n + 1) rs) f.0 f.1 in
          subst (λ z. AreRead p (rows (components_from p node n (row ∷ rs))) z) (sym x.2) (record {
            whole = (_, e, (m.0, (c, x.3)), r.whole);
            complete = ap (missing p) (next_after-more p (rows (components_from p node n (row ∷ rs))) x.0 x.1 _ e) ∙ r.complete;
          })
      | inr x ↦
          skip p _ (components_from p node (n + 1) rs) ts (default_must row.presence row c refl x.0)
          (λ T us e. starting_none (tag_of T) _ (λ y. disjoint (tag_of T) (row_tags p row) (flat_map (row_tags p) rs) d
          (subst (λ z. Mem (tag_of T) z) (same_tags-is _ _ q.0) y) (matches_begins p es rs T us k.1 (subst (λ z. Matches p es rs z) e x.1))))
          (matches_read p node (n + 1) es rs ts q.1 k.1 (distinct-right (row_tags p row) _ d) x.1)
    ]

-- the trees of a whole sequence are read from its first row on
pub sequence_read : (p : Profile) (node : NodeId) (es : Entries) (ts : Trees) → kind_of node ≡ Kind.Seq → Matches p es (rows_of node) ts → AreRead p (rows (components p node)) ts
sequence_read p node es ts k m = matches_read p node 0 es (rows_of node) ts (tables_started p node) (tables_proper p node) (sequence_distinct p node k) m

int_same : (z : ℤ) → int_eq z z ≡ true
int_same z = (signed_Decides z z).1 refl

default_same : (k : Kind) (d : ℤ) → same_value (default_value k d) (default_value k d) ≡ true
default_same (Kind.Leaf LeafKind.Boolean) d = flag_same (int_eq d (pos 1))
  where
    flag_same : (b : Bool) → same_value (flag b) (flag b) ≡ true
    flag_same true = refl
    flag_same false = refl
default_same k d = int_same d

-- a row that is passed over has an entry without a tree: none, or its default
passed_entry : (p : Profile) (row : Row) (rs : List Row) (es : Entries) (ts : Trees) (pr : Presence) → row.presence ≡ pr → (pr ≡ Presence.Must → ⊥)
    → Matches p es rs ts → (fs : Entries) × Matches p fs (row ∷ rs) ts
passed_entry p row rs es ts Presence.Must e n m = absurd (n refl)
passed_entry p row rs es ts Presence.May e n m = (absent es, (subst MayLack (sym e) tt, m))
passed_entry p row rs es ts Presence.LeftOut e n m = (absent es, (subst MayLack (sym e) tt, m))
passed_entry p row rs es ts (Presence.Default d) e n m =
    let c : Content = simple (default_value (kind_of row.node) d) in
    let h : IsTrue (is_default row c) = subst (λ x. IsTrue (is_default_of x (kind_of row.node) c)) (sym e) (default_same (kind_of row.node) d) in
    (present c es, (subst IsCarried (sym e) tt, inr (h, m)))

pub must_ends : (p : Profile) (c : Component) (cs : List Component) (pr : Presence) → c.presence ≡ pr → missing p (rows (c ∷ cs)) ≡ None → pr ≡ Presence.Must → ⊥
must_ends p c cs pr e h f =
    let g : missing p (rows (c ∷ cs)) ≡ Some c.part = rw (e ∙ f) refl in
    let q : None ≡ Some c.part = sym h ∙ g in cc

pub must_stops : (p : Profile) (t : Tag) (c : Component) (cs : List Component) (d : Due) → start_of p t c ≡ None → due_in p t (c ∷ cs) ≡ Some d → c.presence ≡ Presence.Must → ⊥
must_stops p t c cs d h e f =
    let g : due_in p t (c ∷ cs) ≡ None =
    ap (λ o. elim o as (λ _. Option Due) [
      | Some s ↦ Some (part c s.element (rows cs))
      | None ↦ elim c.presence as (λ _. Option Due) [ Presence.Must ↦ None | _ ↦ due_in p t cs ]
    ]) h
    ∙ ap (λ x. elim x as (λ _. Option Due) [ Presence.Must ↦ None | _ ↦ due_in p t cs ]) f in
    let q : None ≡ Some d = sym g ∙ e in cc

found : (o : Option Start) → ((s : Start) × (o ≡ Some s)) ⊎ (o ≡ None)
found None = inr refl
found (Some s) = inl (s, refl)

-- what is read from a position on, with nothing missing, matches the rows from there
pub read_matches : (p : Profile) (node : NodeId) (n : ℕ) (rs : List Row) (ts : Trees) → AreRead p (rows (components_from p node n rs)) ts → (es : Entries) × Matches p es rs ts
read_matches p node n [] none r = (no_entries, refl)
read_matches p node n [] (more T ts) r = absurd (let q : None ≡ Some r.whole.0 = r.whole.1 in cc)
read_matches p node n (row ∷ rs) none r =
    let c : Component = record { part = record { node = node; row = n }; presence = row.presence; tagging = tagging p row; node = row.node } in
    let cs = components_from p node (n + 1) rs in
    let not_must = must_ends p c cs row.presence refl r.complete in
    let u = read_matches p node (n + 1) rs none (record { whole = tt; complete = sym (missing-skip p c cs row.presence refl not_must) ∙ r.complete }) in
    passed_entry p row rs u.0 none row.presence refl not_must u.1
read_matches p node n (row ∷ rs) (more T ts) r =
    let c : Component = record { part = record { node = node; row = n }; presence = row.presence; tagging = tagging p row; node = row.node } in
    let cs = components_from p node (n + 1) rs in
    let w = r.whole in
    elim (found (start_of p (tag_of T) c)) [
      | inl e ↦
          let s = e.0 in
          let q : Some w.0 ≡ Some (part c s.element (rows cs)) = sym w.1 ∙ due-found p (tag_of T) c cs s e.1 in
          let d : w.0 ≡ part c s.element (rows cs) = cc in
          let i : IsWhole p (part c s.element (rows cs)) T = subst (λ x. IsWhole p x T) d w.2 in
          let u = read_matches p node (n + 1) rs ts (record {
            whole = subst (λ x. AreWhole p (next_of x) ts) d w.3;
            complete = sym (ap (missing p) (next_after-more p (rows (c ∷ cs)) T ts (part c s.element (rows cs)) (due-found p (tag_of T) c cs s e.1))) ∙ r.complete;
          }) in
          (present i.1.0 u.0, (i.0, inl (T, ts, refl, i.1.1, u.1)))
      | inr e ↦
          let not_must = must_stops p (tag_of T) c cs w.0 e w.1 in
          let f = sym (due-skip p (tag_of T) c cs row.presence refl not_must e) ∙ w.1 in
          let u = read_matches p node (n + 1) rs (more T ts) (record {
            whole = (w.0, f, w.2, w.3);
            complete = ap (missing p) (next_after-more p (rows cs) T ts w.0 f) ∙ sym (ap (missing p) (next_after-more p (rows (c ∷ cs)) T ts w.0 w.1)) ∙ r.complete;
          }) in
          passed_entry p row rs u.0 (more T ts) row.presence refl not_must u.1
    ]
