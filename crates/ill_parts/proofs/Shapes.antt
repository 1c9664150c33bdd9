-- The shapes of the parts, from the fit of a value to its node.
use Rattle.std.proofs.Common.{◌≡◌, ◌++◌, ℕ, suc, List, [], ◌∷◌, map, length, Option, Some, None, option_map, slice_get, refl, sym, ap, ◌∙◌, subst, inl, inr, Box, Global, arith, zero, ◌+◌, zero-add, add-zero, Ok, Result}
use Rattle.std.specs.Global.{Vec}
use Rattle.ber_leaf.specs.Leaf.{Leaf, integer, enumerated, Holds as LeafHolds, normal_content}
use Rattle.ber_leaf.specs.Profile.{profile_two}
use Rattle.ber_leaf.specs.Simple.{Simple, whole}
use Rattle.ill_tables.specs.declared.{node.Kind.Kind, node.NodeId.NodeId, part.Presence.Presence, part.Row.Row}
use Rattle.ill_tables.specs.declared.node.NodeId.TheVariants.{Integer, Enumerated}
use Rattle.ill_schema.specs.declared.value.Value.{Value, Seq, List as ListOf, Alt}
use Rattle.ill_schema.specs.Content.{Content, simple, sequence, list, alternative, foreign, Items, no_items, item}
use Rattle.ill_schema.specs.Fits.{Fits, FitRows, FitItems}
use Rattle.ill_schema.specs.Presence.{IsCarried, MayLack}
use Rattle.ill_tables.specs.Table.{kind_of, rows_of}
use Rattle.ill_schema.specs.Tagging.{leaf_of}
use Rattle.ill_schema.specs.Value.{content_of, entries_of, items_of}
use Rattle.ill_schema.proofs.Contents.{content_of-Seq, content_of-List, content_of-Alt}
use Rattle.ill_schema.proofs.RowFits.{entries_fit-length}
use Rattle.std.specs.declared.alloc.AllocError.{AllocError}
use Rattle.ill_parts.specs.Shape.{Is, EachItem, IsListOf, Single, ItemHolds, HasShape, Must, May, PresenceHolds, RowsHold, record_of, list_of, option_of, entry_at, entries_seen, entries_from, AreBuilt, AreReady, AltAt, AltHolds}

enumerated-integer : (c : Content) → Fits profile_two c Enumerated → Fits profile_two c Integer
enumerated-integer (simple (whole n)) h =
    let e : enumerated ≡ h.0 = cc in
    let held = subst (λ leaf. LeafHolds profile_two leaf (whole n) (normal_content (whole n))) (sym e) h.2 in
    (integer, refl, (held.0, held.1, held.2))
enumerated-integer _ h = cc

integer-enumerated : (c : Content) → Fits profile_two c Integer → Fits profile_two c Enumerated
integer-enumerated (simple (whole n)) h =
    let e : integer ≡ h.0 = cc in
    let held = subst (λ leaf. LeafHolds profile_two leaf (whole n) (normal_content (whole n))) (sym e) h.2 in
    (enumerated, refl, (held.0, held.1, held.2))
integer-enumerated _ h = cc

single_of : (node : NodeId) (c : Content) → Fits profile_two c node → Single node c
unfolding Is
single_of Enumerated c h = enumerated-integer c h
single_of _ c h = h

of_single : (node : NodeId) (c : Content) → Single node c → Fits profile_two c node
unfolding Is
of_single Enumerated c h = integer-enumerated c h
of_single _ c h = h

first_is : (row r : Row) (rows : List Row) → slice_get (row ∷ rows) 0 ≡ Some r → r ≡ row
first_is row r rows e = cc

items_hold : (is : Items) (rows : List Row) → FitItems profile_two is rows → EachItem (ItemHolds rows) is
items_hold no_items rows h = tt
items_hold (item c is) [] h = absurd cc
items_hold (item c is) (row ∷ rows) h =
    let same = first_is row h.0 rows h.1 in
    (single_of row.node c (subst (λ r. Fits profile_two c r.node) same h.2), items_hold is (row ∷ rows) h.3)

of_items_hold : (is : Items) (rows : List Row) → EachItem (ItemHolds rows) is → FitItems profile_two is rows
of_items_hold no_items rows h = tt
of_items_hold (item c is) [] h = absurd h.0
of_items_hold (item c is) (row ∷ rows) h = (row, refl, of_single row.node c h.0, of_items_hold is (row ∷ rows) h.1)

no_leaf : (kind : Kind) (v : Simple) (leaf : Leaf) → kind ≡ Kind.SeqOf → leaf_of kind v ≡ Some leaf → ⊥
no_leaf Kind.SeqOf v leaf e h = cc
no_leaf _ v leaf e h = cc

list_holds : (node : NodeId) (c : Content) → kind_of node ≡ Kind.SeqOf → Fits profile_two c node → IsListOf (ItemHolds (rows_of node)) c
unfolding IsListOf
list_holds node (list is) e h = items_hold is (rows_of node) h.1
list_holds node (simple v) e h = absurd (no_leaf (kind_of node) v h.0 e h.1)
list_holds node (sequence es) e h = let g : kind_of node ≡ Kind.Seq = h.0 in cc
list_holds node (alternative n c) e h = let g : kind_of node ≡ Kind.Choice = h.1.0 in cc
list_holds node (foreign V) e h = let g : kind_of node ≡ Kind.Any = h.0 in cc

of_list_holds : (node : NodeId) (c : Content) → kind_of node ≡ Kind.SeqOf → IsListOf (ItemHolds (rows_of node)) c → Fits profile_two c node
unfolding IsListOf
of_list_holds node (list is) e h = (e, of_items_hold is (rows_of node) h)
of_list_holds node _ e h = absurd h

abbrev KindHolds : Kind → NodeId → Content → Type 0
KindHolds k node = elim k as (λ _. Content → Type 0) [ Kind.SeqOf ↦ IsListOf (ItemHolds (rows_of node)) | _ ↦ Single node ]

holds_of : (node : NodeId) (c : Content) → Fits profile_two c node → HasShape node c
holds_of node c h = go (kind_of node) refl
  where
    go : (k : Kind) → kind_of node ≡ k → KindHolds k node c
    go Kind.SeqOf e = list_holds node c e h
    go _ e = single_of node c h

of_holds : (node : NodeId) (c : Content) → HasShape node c → Fits profile_two c node
of_holds node c h = go (kind_of node) refl h
  where
    go : (k : Kind) → kind_of node ≡ k → KindHolds k node c → Fits profile_two c node
    go Kind.SeqOf e x = of_list_holds node c e x
    go _ e x = of_single node c x

absent_holds : (p : Presence) (P : Content → Type 0) → MayLack p → PresenceHolds p P None
unfolding Must May
absent_holds Presence.Must P h = absurd h
absent_holds Presence.May P h = tt
absent_holds (Presence.Default d) P h = absurd h
absent_holds Presence.LeftOut P h = refl

of_absent_holds : (p : Presence) (P : Content → Type 0) → PresenceHolds p P None → MayLack p
unfolding Must May
of_absent_holds Presence.Must P h = absurd h
of_absent_holds Presence.May P h = tt
of_absent_holds (Presence.Default d) P h = absurd h
of_absent_holds Presence.LeftOut P h = tt

present_holds : (p : Presence) (P : Content → Type 0) (c : Content) → IsCarried p → P c → PresenceHolds p P (Some c)
unfolding Must May
present_holds Presence.Must P c k h = h
present_holds Presence.May P c k h = h
present_holds (Presence.Default d) P c k h = h
present_holds Presence.LeftOut P c k h = absurd k

of_present_holds : (p : Presence) (P : Content → Type 0) (c : Content) → PresenceHolds p P (Some c) → IsCarried p × P c
unfolding Must May
of_present_holds Presence.Must P c h = (tt, h)
of_present_holds Presence.May P c h = (tt, h)
of_present_holds (Presence.Default d) P c h = (tt, h)
of_present_holds Presence.LeftOut P c h = cc

rows_hold : (os : List (Option Content)) (rows : List Row) → FitRows profile_two (entries_of os) rows → RowsHold rows os
rows_hold [] [] h = tt
rows_hold [] (row ∷ rows) h = absurd h
rows_hold (None ∷ os) [] h = absurd h
rows_hold (Some c ∷ os) [] h = absurd h
rows_hold (None ∷ os) (row ∷ rows) h = (absent_holds row.presence (HasShape row.node) h.0, rows_hold os rows h.1)
rows_hold (Some c ∷ os) (row ∷ rows) h = (present_holds row.presence (HasShape row.node) c h.0 (holds_of row.node c h.1), rows_hold os rows h.2)

of_rows_hold : (os : List (Option Content)) (rows : List Row) → RowsHold rows os → FitRows profile_two (entries_of os) rows
of_rows_hold [] [] h = tt
of_rows_hold [] (row ∷ rows) h = absurd h
of_rows_hold (o ∷ os) [] h = absurd h
of_rows_hold (None ∷ os) (row ∷ rows) h = (of_absent_holds row.presence (HasShape row.node) h.0, of_rows_hold os rows h.1)
of_rows_hold (Some c ∷ os) (row ∷ rows) h =
    let k = of_present_holds row.presence (HasShape row.node) c h.0 in
    (k.0, of_holds row.node c k.1, of_rows_hold os rows h.1)

entries_from-shift : (rows : List Row) (f : ℕ → Option Content) (k : ℕ) → entries_from rows (λ i. f (suc i)) k ≡ entries_from rows f (suc k)
entries_from-shift [] f k = refl
entries_from-shift (row ∷ rows) f k = ap (λ os. f (suc k) ∷ os) (entries_from-shift rows f (suc k))

entries_from-all : (es : List (Option Value)) (rows : List Row) → length es ≡ length rows → entries_from rows (entry_at es) 0 ≡ entries_seen es
unfolding entry_at
entries_from-all [] [] h = refl
entries_from-all [] (row ∷ rows) h = absurd (omega arith)
entries_from-all (e ∷ es) [] h = absurd (omega arith)
entries_from-all (e ∷ es) (row ∷ rows) h =
    ap (λ os. option_map content_of e ∷ os) (sym (entries_from-shift rows (entry_at (e ∷ es)) 0) ∙ entries_from-all es rows (omega arith))

pub record_seen : (es : List (Option Value)) (node : NodeId) → Is node (record_of (entries_seen es)) → record_of (entries_seen es) ≡ record_of (entries_from (rows_of node) (entry_at es) 0)
unfolding Is record_of
record_seen es node h = ap record_of (sym (entries_from-all es (rows_of node) (entries_fit-length es (rows_of node) h.1)))

pub record_holds : (es : List (Option Value)) (node : NodeId) → Is node (record_of (entries_seen es)) → RowsHold (rows_of node) (entries_from (rows_of node) (entry_at es) 0)
unfolding Is record_of
record_holds es node h =
    let P : List (Option Content) → Type 0 = RowsHold (rows_of node) in
    subst P (sym (entries_from-all es (rows_of node) (entries_fit-length es (rows_of node) h.1))) (rows_hold (entries_seen es) (rows_of node) h.1)

pub record_fits : (os : List (Option Content)) (node : NodeId) → kind_of node ≡ Kind.Seq → RowsHold (rows_of node) os → Is node (record_of os)
unfolding Is record_of
record_fits os node e h = (e, of_rows_hold os (rows_of node) h)

pub content_of-record : (v : Vec (Option Value)) → content_of (Seq v) ≡ record_of (entries_seen v.items)
unfolding record_of
content_of-record v = content_of-Seq v

alt_here : (p : Presence) (H L : Type 0) → IsCarried p → H → AltAt p H L
alt_here Presence.LeftOut H L k h = absurd k
alt_here _ H L k h = inl h

alt_later : (p : Presence) (H L : Type 0) → L → AltAt p H L
alt_later Presence.LeftOut H L l = l
alt_later _ H L l = inr l

alt_case : (p : Presence) (H L G : Type 0) → (IsCarried p → H → G) → (L → G) → AltAt p H L → G
alt_case Presence.LeftOut H L G f g a = g a
alt_case _ H L G f g a = elim a [ inl h ↦ f tt h | inr l ↦ g l ]

-- the row that is chosen, and that the content fits
abbrev Chosen : List Row → ℕ → Content → Type 0
Chosen rows n c = (row : Row) × (slice_get rows n ≡ Some row) × IsCarried row.presence × Fits profile_two c row.node

alt_holds : (rows : List Row) (k n : ℕ) (c : Content) → Chosen rows n c → AltHolds rows k (k + n) c
alt_holds [] k n c h = absurd cc
alt_holds (row ∷ rows) k zero c h =
    let same = first_is row h.0 rows h.1 in
    let carried = subst (λ r. IsCarried r.presence) same h.2 in
    let fits = subst (λ r. Fits profile_two c r.node) same h.3 in
    alt_here row.presence _ _ carried (omega arith, holds_of row.node c fits)
alt_holds (row ∷ rows) k (suc n) c h =
    let P : ℕ → Type 0 = λ m. AltHolds rows (suc k) m c in
    let e : suc k + n ≡ k + suc n = omega arith in
    alt_later row.presence _ _ (subst P e (alt_holds rows (suc k) n c h))

of_alt_holds : (rows : List Row) (k m : ℕ) (c : Content) → AltHolds rows k m c → (n : ℕ) × ((m ≡ k + n) × Chosen rows n c)
of_alt_holds [] k m c h = absurd h
of_alt_holds (row ∷ rows) k m c h =
    let G : Type 0 = (n : ℕ) × ((m ≡ k + n) × Chosen (row ∷ rows) n c) in
    alt_case row.presence ((m ≡ k) × HasShape row.node c) (AltHolds rows (suc k) m c) G
    (λ carried x. (0, (x.0 ∙ sym (add-zero k), (row, refl, carried, of_holds row.node c x.1))))
    (λ l. let x = of_alt_holds rows (suc k) m c l in (suc x.0, (omega (arith, x.1.0), x.1.1)))
    h

pub option_fits : (n : ℕ) (c : Content) (node : NodeId) → kind_of node ≡ Kind.Choice → AltHolds (rows_of node) 0 n c → Is node (option_of n c)
unfolding Is option_of
option_fits n c node e h =
    let x = of_alt_holds (rows_of node) 0 n c h in
    let P : ℕ → Type 0 = λ m. Chosen (rows_of node) m c in
    let i : x.0 ≡ n = omega (arith, x.1.0) in
    let chosen = subst P i x.1.1 in
    (chosen.0, (e, chosen.1, chosen.2), chosen.3)

pub option_holds : (n : ℕ) (c : Content) (node : NodeId) → Is node (option_of n c) → AltHolds (rows_of node) 0 n c
unfolding Is option_of
option_holds n c node h =
    let P : ℕ → Type 0 = λ m. AltHolds (rows_of node) 0 m c in
    subst P (zero-add n) (alt_holds (rows_of node) 0 n c (h.0, h.1.1, h.1.2, h.2))

pub content_of-option : (n : ℕ) (b : Box Value Global) → content_of (Alt n b) ≡ option_of n (content_of b.value)
unfolding option_of
content_of-option n b = content_of-Alt n b

pub each_snoc : (P : Content → Type 0) (vs : List Value) (v : Value) → EachItem P (items_of (map content_of vs)) → P (content_of v) → EachItem P (items_of (map content_of (vs ++ v ∷ [])))
each_snoc P [] v h p = (p, tt)
each_snoc P (x ∷ vs) v h p = (h.0, each_snoc P vs v h.1 p)

pub content_of-list : (v : Vec Value) → content_of (ListOf v) ≡ list_of (map content_of v.items)
unfolding list_of
content_of-list v = content_of-List v

pub built_seen : (es : List (Option Value)) (os : List (Option Content)) → AreBuilt (map Ok es) os → entries_seen es ≡ os
built_seen [] [] h = refl
built_seen [] (o ∷ os) h = absurd h
built_seen (e ∷ es) [] h = absurd h
built_seen (e ∷ es) (o ∷ os) h = let i = built_seen es os h.1 in let j : option_map content_of e ≡ o = h.0 in cc

pub ready_holds : (rows : List Row) (es : List (Option Value)) → AreReady rows (map Ok es) → RowsHold rows (entries_seen es)
ready_holds [] [] h = tt
ready_holds [] (e ∷ es) h = absurd h
ready_holds (row ∷ rows) [] h = absurd h
ready_holds (row ∷ rows) (e ∷ es) h = (h.0, ready_holds rows es h.1)

pub built_joined : (rs ss : List (Result (Option Value) AllocError)) (os us : List (Option Content)) → AreBuilt rs os → AreBuilt ss us → AreBuilt (rs ++ ss) (os ++ us)
built_joined [] ss [] us h k = k
built_joined [] ss (o ∷ os) us h k = absurd h
built_joined (r ∷ rs) ss [] us h k = absurd h
built_joined (r ∷ rs) ss (o ∷ os) us h k = (h.0, built_joined rs ss os us h.1 k)

pub ready_joined : (rows others : List Row) (rs ss : List (Result (Option Value) AllocError)) → AreReady rows rs → AreReady others ss → AreReady (rows ++ others) (rs ++ ss)
ready_joined [] others [] ss h k = k
ready_joined [] others (r ∷ rs) ss h k = absurd h
ready_joined (row ∷ rows) others [] ss h k = absurd h
ready_joined (row ∷ rows) others (r ∷ rs) ss h k = (h.0, ready_joined rows others rs ss h.1 k)

pub seen_built : (es : List (Option Value)) → AreBuilt (map Ok es) (entries_seen es)
seen_built [] = tt
seen_built (e ∷ es) = (refl, seen_built es)

pub seen_ready : (es : List (Option Value)) (rows : List Row) → RowsHold rows (entries_seen es) → AreReady rows (map Ok es)
seen_ready [] [] h = tt
seen_ready [] (row ∷ rows) h = absurd h
seen_ready (e ∷ es) [] h = absurd h
seen_ready (e ∷ es) (row ∷ rows) h = (h.0, seen_ready es rows h.1)
