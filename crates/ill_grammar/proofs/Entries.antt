-- The entries of a sequence grow row by row, the items of a list one by one.
use Rattle.ill_schema.specs.Profiles.{profile_of}
use Rattle.ill_tables.specs.declared.profile.Profile.{Profile as Named}
use Rattle.std.proofs.Common.{◌≡◌, ℕ, zero, suc, ◌+◌, ◌<◌, ◌≤◌, List, [], ◌∷◌, ◌++◌, take, drop, map, Option, Some, None, refl, sym, ap, subst, ◌∙◌, inl, inr, arith, slice_get, append_assoc}
use Rattle.std.proofs.lemmas.List.{take-append-drop}
use Rattle.ber_tree.specs.Tree.{Tree, Trees, none, more}
use Rattle.ber_leaf.specs.Profile.{profile_two}
use Rattle.ill_tables.specs.declared.node.NodeId.{NodeId}
use Rattle.ill_tables.specs.declared.part.Presence.{Presence}
use Rattle.ill_tables.specs.declared.part.Row.{Row}
use Rattle.ill_schema.specs.Content.{Content}
use Rattle.ill_schema.specs.Meaning.{Means, Matches, MatchItems}
use Rattle.ill_schema.specs.Presence.{IsCarried}
use Rattle.ill_tables.specs.Table.{kind_of, rows_of}
use Rattle.ill_schema.specs.Tagging.{tagging}
use Rattle.ill_schema.specs.Value.{entries_of, items_of}
use Rattle.ill_grammar.specs.Elements.{component_at}
use Rattle.ill_grammar.specs.Due.{MayAllLack}
use Rattle.ill_refusals.specs.Element.{components, components_from}
use Rattle.ill_refusals.specs.Next.{rows, missing, first_mandatory}
use Rattle.ill_grammar.specs.Contents.{absent_content}
use Rattle.ill_refusals.specs.code.Step.{snoc}
use Rattle.ill_refusals.proofs.OpenElements.{same_simple, first_none}
use Rattle.ill_refusals.proofs.TreeRuns.{joined, joined-none}

-- an entry of a part of a list
between : {X : Type 0} (xs : List X) (n r k : ℕ) (x : X) → slice_get (drop n (take r xs)) k ≡ Some x → (n + k < r) × (slice_get xs (n + k) ≡ Some x)
between [] zero zero k x e = absurd cc
between [] zero (suc r) k x e = absurd cc
between [] (suc n) zero k x e = absurd cc
between [] (suc n) (suc r) k x e = absurd cc
between (y ∷ ys) zero zero k x e = absurd cc
between (y ∷ ys) (suc n) zero k x e = absurd cc
between (y ∷ ys) zero (suc r) zero x e = (omega arith, e)
between (y ∷ ys) zero (suc r) (suc k) x e =
    let q = between ys zero r k x e in
    let m : zero + suc k ≡ suc (zero + k) = omega arith in
    (let z = q.0 in omega arith, ap (slice_get (y ∷ ys)) m ∙ q.1)
between (y ∷ ys) (suc n) (suc r) k x e =
    let q = between ys n r k x e in
    let m : suc n + k ≡ suc (n + k) = omega arith in
    (let z = q.0 in omega arith, ap (slice_get (y ∷ ys)) m ∙ q.1)

-- rows of which none is mandatory may have no elements
lacking_matches : (p : Named) (rs : List Row) → ((k : ℕ) (row : Row) → slice_get rs k ≡ Some row → row.presence ≡ Presence.Must → ⊥) → Matches (profile_of p) (entries_of (map absent_content rs)) rs none
lacking_matches p [] h = refl
lacking_matches p (row ∷ rs) h = one row.presence refl (lacking_matches p rs (λ k. h (suc k)))
  where
    one : (pr : Presence) → row.presence ≡ pr → Matches (profile_of p) (entries_of (map absent_content rs)) rs none → Matches (profile_of p) (entries_of (absent_content row ∷ map absent_content rs)) (row ∷ rs) none
    one Presence.Must e m = absurd (h 0 row refl e)
    one (Presence.Default d) e m = rw e (tt, inr (same_simple (kind_of row.node) d, m))
    one _ e m = rw e (tt, m)

pub absent_matches : (p : Named) (node : NodeId) (from until : ℕ) → MayAllLack node from until
    → Matches (profile_of p) (entries_of (map absent_content (drop from (take until (rows_of node))))) (drop from (take until (rows_of node))) none
absent_matches p node from until h = lacking_matches p (drop from (take until (rows_of node))) (λ k row e must.
    let q = between (rows_of node) from until k row e in
    h (from + k) row (omega arith) q.0 q.1 must)

-- entries after entries
pub matches_joined : (p : Named) (xs ys : List (Option Content)) (rs ss : List Row) (ts us : Trees) → Matches (profile_of p) (entries_of xs) rs ts → Matches (profile_of p) (entries_of ys) ss us
    → Matches (profile_of p) (entries_of (xs ++ ys)) (rs ++ ss) (joined ts us)
matches_joined p [] ys [] ss ts us h k = subst (λ z. Matches (profile_of p) (entries_of ys) ss (joined z us)) (sym h) k
matches_joined p [] ys (row ∷ rs) ss ts us h k = absurd h
matches_joined p (None ∷ xs) ys [] ss ts us h k = absurd h
matches_joined p (Some c ∷ xs) ys [] ss ts us h k = absurd h
matches_joined p (None ∷ xs) ys (row ∷ rs) ss ts us h k = (h.0, matches_joined p xs ys rs ss ts us h.1 k)
matches_joined p (Some c ∷ xs) ys (row ∷ rs) ss ts us h k = (
  h.0,
  elim h.1 [
    | inl x ↦ inl (x.0, joined x.1 us, ap (λ z. joined z us) x.2, x.3, matches_joined p xs ys rs ss x.1 us x.4 k)
    | inr x ↦ inr (x.0, matches_joined p xs ys rs ss ts us x.1 k)
  ],
)

joined_one : (ts : Trees) (T : Tree) → joined (joined ts none) (more T none) ≡ snoc ts T
joined_one none T = refl
joined_one (more U ts) T = ap (more U) (joined_one ts T)

rows_before : {X : Type 0} (xs : List X) (n r : ℕ) → n ≤ r → take r xs ≡ take n xs ++ drop n (take r xs)
rows_before xs zero r h = refl
rows_before [] (suc n) zero h = absurd (omega arith)
rows_before [] (suc n) (suc r) h = refl
rows_before (x ∷ xs) (suc n) zero h = absurd (omega arith)
rows_before (x ∷ xs) (suc n) (suc r) h = ap (λ z. x ∷ z) (rows_before xs n r (omega arith))

row_behind : {X : Type 0} (xs : List X) (r : ℕ) (x : X) → slice_get xs r ≡ Some x → take (suc r) xs ≡ take r xs ++ x ∷ []
row_behind [] r x e = absurd cc
row_behind (y ∷ ys) zero x e = let q : y ≡ x = cc in ap (λ z. z ∷ []) q
row_behind (y ∷ ys) (suc r) x e = ap (λ z. y ∷ z) (row_behind ys r x e)

-- an element of a row, where those passed over may be absent
pub row_added : (p : Named) (node : NodeId) (n r : ℕ) (row : Row) (held : List (Option Content)) (c : Content) (ts : Trees) (T : Tree) → n ≤ r → MayAllLack node n r
    → slice_get (rows_of node) r ≡ Some row → IsCarried row.presence → Means (profile_of p) c row.node (tagging profile_two row) T → Matches (profile_of p) (entries_of held) (take n (rows_of node)) ts
    → Matches (profile_of p) (entries_of (held ++ (map absent_content (drop n (take r (rows_of node))) ++ Some c ∷ []))) (take (r + 1) (rows_of node)) (snoc ts T)
row_added p node n r row held c ts T le lack is carried m h =
    let rs = rows_of node in
    let mid = drop n (take r rs) in
    let first = matches_joined p held (map absent_content mid) (take n rs) mid ts none h (absent_matches p node n r lack) in
    let one : Matches (profile_of p) (entries_of (Some c ∷ [])) (row ∷ []) (more T none) = (carried, inl (T, none, refl, m, refl)) in
    let all = matches_joined p (held ++ map absent_content mid) (Some c ∷ []) (take n rs ++ mid) (row ∷ []) (joined ts none) (more T none) first one in
    let n1 : r + 1 ≡ suc r = omega arith in
    let upto : take (r + 1) rs ≡ (take n rs ++ mid) ++ row ∷ [] = ap (λ k. take k rs) n1 ∙ row_behind rs r row is ∙ ap (λ z. z ++ row ∷ []) (rows_before rs n r le) in
    subst (λ es. Matches (profile_of p) (entries_of es) (take (r + 1) rs) (snoc ts T)) (append_assoc held (map absent_content mid) (Some c ∷ []))
    (subst (λ xs. Matches (profile_of p) (entries_of ((held ++ map absent_content mid) ++ Some c ∷ [])) xs (snoc ts T)) (sym upto)
    (subst (λ us. Matches (profile_of p) (entries_of ((held ++ map absent_content mid) ++ Some c ∷ [])) ((take n rs ++ mid) ++ row ∷ []) us) (joined_one ts T) all))

-- where nothing is missing, none of the rows left is mandatory
none_missing : (node : NodeId) (k n : ℕ) (rs : List Row) → first_mandatory (drop n (components_from profile_two node k rs)) ≡ None
    → (i : ℕ) (row : Row) → slice_get (drop n rs) i ≡ Some row → row.presence ≡ Presence.Must → ⊥
none_missing node k zero [] h i row e must = cc
none_missing node k (suc n) [] h i row e must = cc
none_missing node k zero (r ∷ rs) h zero row e must =
    let q : r ≡ row = cc in
    (first_none (component_at (record { node = node; row = k }) r) (components_from profile_two node (k + 1) rs) h).0 (ap (λ (x : Row). x.presence) q ∙ must)
none_missing node k zero (r ∷ rs) h (suc i) row e must = none_missing node (k + 1) zero rs ((first_none (component_at (record { node = node; row = k }) r) (components_from profile_two node (k + 1) rs) h).1) i row e must
none_missing node k (suc n) (r ∷ rs) h i row e must = none_missing node (k + 1) n rs h i row e must

-- a sequence ends, where the rows left may be absent
pub rows_ended : (p : Named) (node : NodeId) (n : ℕ) (held : List (Option Content)) (ts : Trees) → missing profile_two (rows (drop n (components profile_two node))) ≡ None
    → Matches (profile_of p) (entries_of held) (take n (rows_of node)) ts → Matches (profile_of p) (entries_of (held ++ map absent_content (drop n (rows_of node)))) (rows_of node) ts
rows_ended p node n held ts none_left h =
    let rest = drop n (rows_of node) in
    let all = matches_joined p held (map absent_content rest) (take n (rows_of node)) rest ts none h (lacking_matches p rest (none_missing node 0 n (rows_of node) none_left)) in
    subst (λ us. Matches (profile_of p) (entries_of (held ++ map absent_content rest)) (rows_of node) us) (joined-none ts)
    (subst (λ xs. Matches (profile_of p) (entries_of (held ++ map absent_content rest)) xs (joined ts none)) (take-append-drop n (rows_of node)) all)

-- an item after others
pub item_added : (p : Named) (cs : List Content) (c : Content) (rs : List Row) (row : Row) (ts : Trees) (T : Tree) → slice_get rs 0 ≡ Some row → Means (profile_of p) c row.node (tagging profile_two row) T
    → MatchItems (profile_of p) (items_of cs) rs ts → MatchItems (profile_of p) (items_of (cs ++ c ∷ [])) rs (snoc ts T)
item_added p [] c rs row ts T is m h = (row, T, none, is, ap (λ z. snoc z T) h, m, refl)
item_added p (d ∷ cs) c rs row ts T is m h = (h.0, h.1, snoc h.2 T, h.3, ap (λ z. snoc z T) h.4, h.5, item_added p cs c rs row h.2 T is m h.6)
