-- What is refused inside a value is refused of the value, one step further.
use Rattle.std.proofs.Common.{◌≡◌, inl, inr, ℕ, suc, List, [], ◌∷◌, drop, Option, Some, None, Result, Ok, Err, refl, sym, ap, subst, ◌∙◌, slice_get}
use Rattle.std.specs.Prelude.{IfSome}
use Rattle.json.specs.Json.{Json}
use Rattle.json.specs.Value.{value_view, items_view}
use Rattle.json.specs.declared.value.Value.{Value}
use Rattle.ber_leaf.specs.Profile.{Profile}
use Rattle.ill_schema.specs.Content.{Content}
use Rattle.ill_schema.specs.Fits.{Fits}
use Rattle.ill_tables.specs.Names.{node_or_left_out, row_name, row_node}
use Rattle.ill_tables.specs.Table.{kind_of, rows_of}
use Rattle.ill_tables.specs.declared.node.Kind.{Kind}
use Rattle.ill_tables.specs.declared.node.NodeId.{NodeId}
use Rattle.ill_tables.specs.declared.node.NodeId.TheVariants.{External, TaggedExternal}
use Rattle.ill_tables.specs.declared.part.Presence.{Presence}
use Rattle.ill_tables.specs.declared.part.Row.{Row}
use Rattle.ill_build.specs.declared.cause.BuildCause.{BuildCause}
use Rattle.ill_build.specs.declared.stop.Stop.{Stop}
use Rattle.ill_build.specs.declared.stop.Stop.TheVariants.{OutOfMemory, Refused}
use Rattle.ill_build.specs.Faulty.{AreItemsFaulty, AreRowsFaulty, IsChosenFaulty, IsFaulty, IsFoundFault, IsFaultyAt, IsFaultyHere, IsLeafFault, shown_node}
use Rattle.ill_build.specs.Path.{OnRefused, OnRefusal, Step, indexed, named, refusal_of}
use Rattle.ill_build.specs.Said.{Says}
use Rattle.ill_build.specs.code.Built.{BuiltEntries, BuiltRow}
use Rattle.ill_build.specs.code.Refused.{AreItemsRefused, AreRowsRefused, IsChoiceRefused, IsListRefused, IsRowRefused, IsSequenceRefused, inside}
use Rattle.ill_build.proofs.Lists.{drop_at}

abbrev Fault : Type 1
Fault = BuildCause → List Step → Type 0

-- ---- stops

abbrev path_in : Option (BuildCause × List Step) → Fault → Type 0
path_in None P = Unit {0}
path_in (Some r) P = P r.0 r.1

seen : (stop : Stop) (P : Fault) → OnRefused stop P → path_in (refusal_of stop) P
seen OutOfMemory P h = tt
seen (Refused fault) P h = h

unseen : (stop : Stop) (P : Fault) → path_in (refusal_of stop) P → OnRefused stop P
unseen OutOfMemory P h = tt
unseen (Refused fault) P h = h

-- the value itself is refused
pub here : (stop : Stop) (cause : BuildCause) (P : Fault) → refusal_of stop ≡ Some (cause, []) → P cause [] → OnRefused stop P
here stop cause P e h = unseen stop P (subst (λ o. path_in o P) (sym e) h)

-- what is refused, where the cause and the path are known
pub path_of_stop : (stop : Stop) (cause : BuildCause) (path : List Step) (P : Fault) → refusal_of stop ≡ Some (cause, path) → OnRefused stop P → P cause path
path_of_stop stop cause path P e h = subst (λ o. path_in o P) e (seen stop P h)

-- what adding a step makes of a stop
abbrev pub IsWithin : Stop → Step → Stop → Type 0
IsWithin inner step outer = IfSome (refusal_of outer) (λ r. (path : List Step) × (refusal_of inner ≡ Some (r.0, path)) × (r.1 ≡ step ∷ path))

-- a value inside is refused
pub one_step : (inner outer : Stop) (step : Step) (P Q : Fault) → IsWithin inner step outer → OnRefused inner P → ((cause : BuildCause) (rest : List Step) → P cause rest → Q cause (step ∷ rest)) → OnRefused outer Q
one_step inner outer step P Q w h more = unseen outer Q (by (refusal_of outer) w)
  where
    by : (o : Option (BuildCause × List Step)) → IfSome o (λ r. (path : List Step) × (refusal_of inner ≡ Some (r.0, path)) × (r.1 ≡ step ∷ path)) → path_in o Q
    by None x = tt
    by (Some r) x = subst (λ p. Q r.0 p) (sym x.2) (more r.0 x.0 (subst (λ o. path_in o P) x.1 (seen inner P h)))

-- a member is refused
pub at_name : (stop : Stop) (cause : BuildCause) (name : List ℕ) (P : Fault) → IfSome (refusal_of stop) (λ refusal. refusal ≡ (cause, named name ∷ [])) → P cause (named name ∷ []) → OnRefused stop P
at_name stop cause name P h r = unseen stop P (by (refusal_of stop) h)
  where
    by : (o : Option (BuildCause × List Step)) → IfSome o (λ refusal. refusal ≡ (cause, named name ∷ [])) → path_in o P
    by None e = tt
    by (Some refusal) e = subst (λ x. P x.0 x.1) (sym e) r

-- one that has no inside
pub at_step : (inner outer : Stop) (cause : BuildCause) (step : Step) (Q : Fault) → refusal_of inner ≡ Some (cause, []) → IsWithin inner step outer → Q cause (step ∷ []) → OnRefused outer Q
at_step inner outer cause step Q e w h =
    one_step inner outer step (λ c rest. (c ≡ cause) × (rest ≡ [])) Q w (here inner cause (λ c rest. (c ≡ cause) × (rest ≡ [])) e (refl, refl))
    (λ c rest x. subst (λ y. Q y (step ∷ rest)) (sym x.0) (subst (λ r. Q cause (step ∷ r)) (sym x.1) h))

pub weaker : {A : Type 0} (r : Result A Stop) (P Q : Fault) → ((cause : BuildCause) (path : List Step) → P cause path → Q cause path) → OnRefusal r P → OnRefusal r Q
weaker (Ok x) P Q more h = tt
weaker (Err OutOfMemory) P Q more h = tt
weaker (Err (Refused fault)) P Q more h = more _ _ h

pub weaker_stop : (stop : Stop) (P Q : Fault) → ((cause : BuildCause) (path : List Step) → P cause path → Q cause path) → OnRefused stop P → OnRefused stop Q
weaker_stop OutOfMemory P Q more h = tt
weaker_stop (Refused fault) P Q more h = more _ _ h

-- ---- rows

pub row_refused : (p : Profile) (node : NodeId) (i : ℕ) (j : Json) (cause : BuildCause) (path : List Step) → IsRowRefused p node i j cause path → AreRowsRefused p node i (drop i (rows_of node)) j cause path
row_refused p node i j cause path r =
    (named (row_name node i), r.1, r.3, subst (λ rs. AreRowsFaulty (inside p cause r.1) p node i rs j cause (named (row_name node i)) r.1) (sym (drop_at (rows_of node) i r.0 r.2)) (inl (refl, r.4)))

pub later_row_refused : (p : Profile) (node : NodeId) (i : ℕ) (row : Row) (j : Json) (old mid : List ℕ) (cause : BuildCause) (path : List Step) → slice_get (rows_of node) i ≡ Some row → BuiltEntries p node i (row ∷ []) j old mid
    → AreRowsRefused p node (suc i) (drop (suc i) (rows_of node)) j cause path → AreRowsRefused p node i (drop i (rows_of node)) j cause path
later_row_refused p node i row j old mid cause path at b r =
    (r.0, r.1, r.2, subst (λ rs. AreRowsFaulty (inside p cause r.1) p node i rs j cause r.0 r.1) (sym (drop_at (rows_of node) i row at)) (inr ((b.0, b.1, b.2), r.3)))

pub missing : (presence : Presence) (faulty : Json → Type 0) (o : Option Json) → presence ≡ Presence.Must → o ≡ None → IsFoundFault o presence faulty BuildCause.MissingMember []
missing presence faulty o e f =
    subst (λ x. IsFoundFault o x faulty BuildCause.MissingMember []) (sym e) (subst (λ x. IsFoundFault x Presence.Must faulty BuildCause.MissingMember []) (sym f) (refl, refl))

pub found_fault : (presence : Presence) (faulty : Json → Type 0) (o : Option Json) (v : Json) (cause : BuildCause) (path : List Step) → o ≡ Some v → faulty v → IsFoundFault o presence faulty cause path
found_fault presence faulty o v cause path e h = subst (λ x. IsFoundFault x presence faulty cause path) (sym e) h

-- ---- items

abbrev IsItemSaid : Profile → List ℕ → NodeId → Json → Type 0
IsItemSaid p name node k = (c : Content) × Says name (row_node node 0) k c × Fits p c (row_node node 0)

pub item_refused : {A : Type 0} (p : Profile) (name : List ℕ) (node : NodeId) (row : Row) (vs : List (Value A)) (k : ℕ) (v : Value A) (cause : BuildCause) (rest : List Step) → slice_get (rows_of node) 0 ≡ Some row
    → slice_get vs k ≡ Some v → IsFaulty p name row.node (value_view v) cause rest → AreItemsRefused p name node k (items_view (drop k vs)) cause (indexed k ∷ rest)
item_refused p name node row vs k v cause rest first at f = (
  indexed k,
  rest,
  refl,
  subst (λ xs. AreItemsFaulty (λ x. IsFaulty p name (row_node node 0) x cause rest) (IsItemSaid p name node) k (items_view xs) (indexed k)) (sym (drop_at vs k v at))
      (inl (refl, subst (λ n. IsFaulty p name n (value_view v) cause rest) (sym (ap node_or_left_out first)) f)),
)

pub later_item_refused : {A : Type 0} (p : Profile) (name : List ℕ) (node : NodeId) (row : Row) (vs : List (Value A)) (k : ℕ) (v : Value A) (old mid : List ℕ) (cause : BuildCause) (path : List Step)
    → slice_get (rows_of node) 0 ≡ Some row → slice_get vs k ≡ Some v → BuiltRow p name row (value_view v) old mid
    → AreItemsRefused p name node (suc k) (items_view (drop (suc k) vs)) cause path → AreItemsRefused p name node k (items_view (drop k vs)) cause path
later_item_refused p name node row vs k v old mid cause path first at m r =
    let said : IsItemSaid p name node (value_view v) = subst (λ n. (c : Content) × Says name n (value_view v) c × Fits p c n) (sym (ap node_or_left_out first)) (m.0, m.1, m.2) in
    (r.0, r.1, r.2, subst (λ xs. AreItemsFaulty (λ x. IsFaulty p name (row_node node 0) x cause r.1) (IsItemSaid p name node) k (items_view xs) r.0) (sym (drop_at vs k v at)) (inr (said, r.3)))

-- ---- types

pub shown_same : (node : NodeId) → (node ≡ TaggedExternal → ⊥) → shown_node node ≡ node
shown_same TaggedExternal h = absurd (h refl)
shown_same _ h = refl

pub not_tagged : (node : NodeId) (k : Kind) → kind_of node ≡ k → (k ≡ Kind.Choice → ⊥) → node ≡ TaggedExternal → ⊥
not_tagged node k e h t = h (sym e ∙ ap kind_of t)

faulty_here : (p : Profile) (name : List ℕ) (node : NodeId) (k : Kind) (j : Json) (cause : BuildCause) → (node ≡ TaggedExternal → ⊥) → kind_of node ≡ k → IsFaultyHere p k name node j cause → IsFaulty p name node j cause []
faulty_here p name node k j cause other e h =
    subst (λ n. IsFaultyHere p (kind_of n) name n j cause) (sym (shown_same node other)) (subst (λ x. IsFaultyHere p x name node j cause) (sym e) h)

faulty_at : (p : Profile) (name : List ℕ) (node : NodeId) (k : Kind) (j : Json) (cause : BuildCause) (step : Step) (rest : List Step) → (node ≡ TaggedExternal → ⊥) → kind_of node ≡ k
    → IsFaultyAt (inside p cause rest) p k name node j cause step rest → IsFaulty p name node j cause (step ∷ rest)
faulty_at p name node k j cause step rest other e h =
    subst (λ n. IsFaultyAt (inside p cause rest) p (kind_of n) name n j cause step rest) (sym (shown_same node other)) (subst (λ x. IsFaultyAt (inside p cause rest) p x name node j cause step rest) (sym e) h)

pub sequence_faulty : (p : Profile) (name : List ℕ) (node : NodeId) (j : Json) (cause : BuildCause) (path : List Step) → kind_of node ≡ Kind.Seq → IsSequenceRefused p node j cause path → IsFaulty p name node j cause path
sequence_faulty p name node j cause [] e (inl w) = faulty_here p name node Kind.Seq j cause (not_tagged node Kind.Seq e (λ q. cc)) e (w.0, w.1)
sequence_faulty p name node j cause [] e (inr (ms, is, inl bad)) = absurd (let q = bad.2 in cc)
sequence_faulty p name node j cause [] e (inr (ms, is, inr (none, r))) = absurd (let q = r.2 in cc)
sequence_faulty p name node j cause (step ∷ rest) e (inl w) = absurd (let q = w.2 in cc)
sequence_faulty p name node j cause (step ∷ rest) e (inr (ms, is, inl bad)) = faulty_at p name node Kind.Seq j cause step rest (not_tagged node Kind.Seq e (λ q. cc)) e (inr (ms, is, inl bad))
sequence_faulty p name node j cause (step ∷ rest) e (inr (ms, is, inr (none, r))) =
    let s : r.0 ≡ step = let q = r.2 in cc in
    let t : r.1 ≡ rest = let q = r.2 in cc in
    faulty_at p name node Kind.Seq j cause step rest (not_tagged node Kind.Seq e (λ q. cc)) e
    (inr (ms, is, inr (none, subst (λ x. AreRowsFaulty (inside p cause rest) p node 0 (rows_of node) j cause x rest) s (subst (λ x. AreRowsFaulty (inside p cause x) p node 0 (rows_of node) j cause r.0 x) t r.3))))

pub list_faulty : (p : Profile) (name : List ℕ) (node : NodeId) (j : Json) (cause : BuildCause) (path : List Step) → kind_of node ≡ Kind.SeqOf → IsListRefused p name node j cause path → IsFaulty p name node j cause path
list_faulty p name node j cause [] e (inl w) = faulty_here p name node Kind.SeqOf j cause (not_tagged node Kind.SeqOf e (λ q. cc)) e (w.0, w.1)
list_faulty p name node j cause [] e (inr (js, is, r)) = absurd (let q = r.2 in cc)
list_faulty p name node j cause (step ∷ rest) e (inl w) = absurd (let q = w.2 in cc)
list_faulty p name node j cause (step ∷ rest) e (inr (js, is, r)) =
    let s : r.0 ≡ step = let q = r.2 in cc in
    let t : r.1 ≡ rest = let q = r.2 in cc in
    faulty_at p name node Kind.SeqOf j cause step rest (not_tagged node Kind.SeqOf e (λ q. cc)) e
    (js, is, subst (λ x. AreItemsFaulty (λ k. IsFaulty p name (row_node node 0) k cause rest) (IsItemSaid p name node) 0 js x) s (subst (λ x. AreItemsFaulty (λ k. IsFaulty p name (row_node node 0) k cause x) (IsItemSaid p name node) 0 js r.0) t r.3))

pub choice_faulty : (p : Profile) (name : List ℕ) (node : NodeId) (j : Json) (cause : BuildCause) (path : List Step) → (node ≡ TaggedExternal → ⊥) → kind_of node ≡ Kind.Choice → IsChoiceRefused p node j cause path
    → IsFaulty p name node j cause path
choice_faulty p name node j cause [] other e (inl w) = faulty_here p name node Kind.Choice j cause other e (inl w)
choice_faulty p name node j cause [] other e (inr (ms, is, inl bad)) = absurd (let q = bad.2 in cc)
choice_faulty p name node j cause [] other e (inr (ms, is, inr (none, inl many))) = faulty_here p name node Kind.Choice j cause other e (inr (ms, is, inr (none, (many.0, many.1))))
choice_faulty p name node j cause [] other e (inr (ms, is, inr (none, inr r))) = absurd (let q = r.2 in cc)
choice_faulty p name node j cause (step ∷ rest) other e (inl w) = absurd (let q = w.2 in cc)
choice_faulty p name node j cause (step ∷ rest) other e (inr (ms, is, inl bad)) = faulty_at p name node Kind.Choice j cause step rest other e (inr (ms, is, inl bad))
choice_faulty p name node j cause (step ∷ rest) other e (inr (ms, is, inr (none, inl many))) = absurd (let q = many.2 in cc)
choice_faulty p name node j cause (step ∷ rest) other e (inr (ms, is, inr (none, inr r))) =
    let s : r.0 ≡ step = let q = r.2 in cc in
    let t : r.1 ≡ rest = let q = r.2 in cc in
    faulty_at p name node Kind.Choice j cause step rest other e
    (inr (ms, is, inr (none, subst (λ x. IsChosenFaulty (inside p cause rest) node j x) s (subst (λ x. IsChosenFaulty (inside p cause x) node j r.0) t r.3))))

leaf_here : (p : Profile) (k : Kind) (name : List ℕ) (node : NodeId) (j : Json) (cause : BuildCause) → IsLeafFault p k name j cause [] → IsFaultyHere p k name node j cause
leaf_here p (Kind.Leaf k) name node j cause h = h
leaf_here p Kind.IllString name node j cause h = h
leaf_here p Kind.Any name node j cause h = h
leaf_here p Kind.Seq name node j cause h = absurd h
leaf_here p Kind.SeqOf name node j cause h = absurd h
leaf_here p Kind.Choice name node j cause h = absurd h

leaf_at : (p : Profile) (k : Kind) (name : List ℕ) (node : NodeId) (j : Json) (cause : BuildCause) (step : Step) (rest : List Step) → IsLeafFault p k name j cause (step ∷ rest)
    → IsFaultyAt (inside p cause rest) p k name node j cause step rest
leaf_at p (Kind.Leaf k) name node j cause step rest h = h
leaf_at p Kind.IllString name node j cause step rest h = h
leaf_at p Kind.Any name node j cause step rest h = h
leaf_at p Kind.Seq name node j cause step rest h = absurd h
leaf_at p Kind.SeqOf name node j cause step rest h = absurd h
leaf_at p Kind.Choice name node j cause step rest h = absurd h

pub leaf_faulty : (p : Profile) (name : List ℕ) (node : NodeId) (j : Json) (cause : BuildCause) (path : List Step) → (kind_of node ≡ Kind.Choice → ⊥) → IsLeafFault p (kind_of node) name j cause path → IsFaulty p name node j cause path
leaf_faulty p name node j cause [] other h = faulty_here p name node (kind_of node) j cause (λ t. other (ap kind_of t)) refl (leaf_here p (kind_of node) name node j cause h)
leaf_faulty p name node j cause (step ∷ rest) other h = faulty_at p name node (kind_of node) j cause step rest (λ t. other (ap kind_of t)) refl (leaf_at p (kind_of node) name node j cause step rest h)

-- under its tag an EXTERNAL is shown as it is
pub tagged_faulty : (p : Profile) (m n : List ℕ) (node : NodeId) (j : Json) (cause : BuildCause) (path : List Step) → node ≡ TaggedExternal → IsFaulty p m External j cause path → IsFaulty p n node j cause path
tagged_faulty p m n node j cause [] e h = subst (λ x. IsFaulty p n x j cause []) (sym e) h
tagged_faulty p m n node j cause (step ∷ rest) e h = subst (λ x. IsFaulty p n x j cause (step ∷ rest)) (sym e) h
