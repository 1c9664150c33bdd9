-- What has a fault says nothing.
use Rattle.std.proofs.Common.{◌≡◌, inl, inr, ◌∷◌, ◌∙◌, ℕ, suc, zero, List, [], Option, Some, None, refl, sym, ap, subst, slice_get}
use Rattle.json.specs.Find.{as_array, as_object, get}
use Rattle.json.specs.Json.{Json, Members}
use Rattle.json.specs.Json as json
use Rattle.ber_leaf.specs.Profile.{Profile}
use Rattle.ill_schema.specs.Content.{Content, simple, sequence, list, alternative, foreign, Entries, no_entries, absent, present, Items, no_items, item}
use Rattle.ill_schema.specs.Fits.{Fits, FitItems, FitRows}
use Rattle.ill_schema.specs.Presence.{IsCarried, MayLack}
use Rattle.ill_schema.specs.Tagging.{leaf_of}
use Rattle.ill_schema.proofs.Unique.{no_any_leaf, no_leaf}
use Rattle.ill_tables.specs.Names.{node_or_left_out, row_name, row_node}
use Rattle.ill_tables.specs.Table.{kind_of, rows_of}
use Rattle.ill_tables.specs.declared.node.Kind.{Kind}
use Rattle.ill_tables.specs.declared.node.NodeId.{NodeId}
use Rattle.ill_tables.specs.declared.node.NodeId.TheVariants.{External, TaggedExternal}
use Rattle.ill_tables.specs.declared.part.Presence.{Presence}
use Rattle.ill_tables.specs.declared.part.Row.{Row}
use Rattle.ill_build.specs.declared.cause.BuildCause.{BuildCause}
use Rattle.ill_build.specs.Faulty.{AreItemsFaulty, AreRowsFaulty, Inside, IsChosenFaulty, IsFaulty, IsFaultyAt, IsFaultyHere, IsFoundFault, IsLeafFault, IsObjectFault, shown_node}
use Rattle.ill_build.specs.Members.{IsObjectOf, first_fault, name_fault, of_type, place_fault, presence_fault, row_fault}
use Rattle.ill_build.specs.Path.{Step}
use Rattle.ill_build.specs.Said.{EntriesSay, Given, IsDefaultAt, ItemsSay, Says, Under}
use Rattle.ill_build.specs.code.Built.{IsLeafKind}
use Rattle.ill_build.specs.code.Refused.{inside}
use Rattle.ill_build.proofs.LeavesUnsaid.{foreign_clean, leaf_clean, object_clean, object_there}
use Rattle.ill_tables.proofs.DistinctNames.{row_once}
use Rattle.ill_build.proofs.Names.{row_named, row_place}

-- a value of the type that this one says, and that fits
pub record IsSaid (p : Profile) (row : List ℕ) (node : NodeId) (j : Json) : Type 0 where
  pub content : Content
  pub says : Says row node j content
  pub fits : Fits p content node

-- ---- contents by the kinds of their types

pub record SaysSequence (p : Profile) (node : NodeId) (j : Json) : Type 0 where
  pub entries : Entries
  pub named : IsObjectOf (of_type node) j
  pub says : EntriesSay node 0 (rows_of node) j entries
  pub fits : FitRows p entries (rows_of node)

as_sequence : (p : Profile) (row : List ℕ) (node : NodeId) (j : Json) → kind_of node ≡ Kind.Seq → IsSaid p row node j → SaysSequence p node j
as_sequence p row node j k m = by m.content m.says m.fits
  where
    by : (c : Content) → Says row node j c → Fits p c node → SaysSequence p node j
    by (sequence es) s f = record { entries = es; named = s.0; says = s.1; fits = f.1 }
    by (simple v) s f = absurd (no_leaf (kind_of node) v f.0 f.1 (inl k))
    by (list is) s f = absurd (let q : Kind.Seq ≡ Kind.SeqOf = sym k ∙ f.0 in cc)
    by (alternative n d) s f = absurd (let q : Kind.Seq ≡ Kind.Choice = sym k ∙ f.1.0 in cc)
    by (foreign T) s f = absurd (let q : Kind.Seq ≡ Kind.Any = sym k ∙ f.0 in cc)

pub record SaysList (p : Profile) (row : List ℕ) (node : NodeId) (j : Json) : Type 0 where
  pub content : Items
  pub values : json.Items
  pub array : j ≡ json.array values
  pub says : ItemsSay row (row_node node 0) values content
  pub fits : FitItems p content (rows_of node)

as_list : (p : Profile) (row : List ℕ) (node : NodeId) (j : Json) → kind_of node ≡ Kind.SeqOf → IsSaid p row node j → SaysList p row node j
as_list p row node j k m = by m.content m.says m.fits
  where
    by : (c : Content) → Says row node j c → Fits p c node → SaysList p row node j
    by (list is) s f = record { content = is; values = s.0; array = s.1; says = s.2; fits = f.1 }
    by (simple v) s f = absurd (no_leaf (kind_of node) v f.0 f.1 (inr (inl k)))
    by (sequence es) s f = absurd (let q : Kind.SeqOf ≡ Kind.Seq = sym k ∙ f.0 in cc)
    by (alternative n d) s f = absurd (let q : Kind.SeqOf ≡ Kind.Choice = sym k ∙ f.1.0 in cc)
    by (foreign T) s f = absurd (let q : Kind.SeqOf ≡ Kind.Any = sym k ∙ f.0 in cc)

pub record SaysChoice (p : Profile) (node : NodeId) (j : Json) : Type 0 where
  pub number : ℕ
  pub row : Row
  pub at : slice_get (rows_of node) number ≡ Some row
  pub carried : IsCarried row.presence
  pub content : Content
  pub says : Under (row_name node number) j (λ inner. Says (row_name node number) row.node inner content)
  pub fits : Fits p content row.node

as_choice : (p : Profile) (row : List ℕ) (node : NodeId) (j : Json) → kind_of node ≡ Kind.Choice → IsSaid p row node j → SaysChoice p node j
as_choice p row node j k m = by m.content m.says m.fits
  where
    by : (c : Content) → Says row node j c → Fits p c node → SaysChoice p node j
    by (alternative n d) s f = record {
      number = n;
      row = f.0;
      at = f.1.1;
      carried = f.1.2;
      content = d;
      says = subst (λ x. Under (row_name node n) j (λ inner. Says (row_name node n) x inner d)) (ap node_or_left_out f.1.1) s;
      fits = f.2;
    }
    by (simple v) s f = absurd (no_leaf (kind_of node) v f.0 f.1 (inr (inr k)))
    by (sequence es) s f = absurd (let q : Kind.Choice ≡ Kind.Seq = sym k ∙ f.0 in cc)
    by (list is) s f = absurd (let q : Kind.Choice ≡ Kind.SeqOf = sym k ∙ f.0 in cc)
    by (foreign T) s f = absurd (let q : Kind.Choice ≡ Kind.Any = sym k ∙ f.0 in cc)

leaf_said : (p : Profile) (row : List ℕ) (node : NodeId) (j : Json) (cause : BuildCause) (path : List Step) (k : Kind) → IsLeafKind k → kind_of node ≡ k → IsSaid p row node j → IsLeafFault p k row j cause path → ⊥
leaf_said p row node j cause path k leaf e m f = by m.content m.says m.fits
  where
    other : (x : Kind) → (IsLeafKind x → ⊥) → kind_of node ≡ x → ⊥
    other x none q = none (subst IsLeafKind (sym e ∙ q) leaf)

    by : (c : Content) → Says row node j c → Fits p c node → ⊥
    by (simple v) s x = leaf_clean p k row j cause path v x.0 (subst (λ y. leaf_of y v ≡ Some x.0) e x.1) x.2 s f
    by (sequence es) s x = other Kind.Seq (λ h. h) x.0
    by (list is) s x = other Kind.SeqOf (λ h. h) x.0
    by (alternative n d) s x = other Kind.Choice (λ h. h) x.1.0
    by (foreign T) s x = other Kind.Any (λ h. h) x.0

open_said : (p : Profile) (row : List ℕ) (node : NodeId) (j : Json) (cause : BuildCause) (path : List Step) → kind_of node ≡ Kind.Any → IsSaid p row node j → IsLeafFault p Kind.Any row j cause path → ⊥
open_said p row node j cause path k m f = by m.content m.says m.fits
  where
    by : (c : Content) → Says row node j c → Fits p c node → ⊥
    by (foreign T) s x = foreign_clean p row j cause path T x.1 s.0 s.1 f
    by (simple v) s x = no_any_leaf (kind_of node) v x.0 x.1 k
    by (sequence es) s x = absurd (let q : Kind.Any ≡ Kind.Seq = sym k ∙ x.0 in cc)
    by (list is) s x = absurd (let q : Kind.Any ≡ Kind.SeqOf = sym k ∙ x.0 in cc)
    by (alternative n d) s x = absurd (let q : Kind.Any ≡ Kind.Choice = sym k ∙ x.1.0 in cc)

-- ---- rows

abbrev pub Clean : Profile → Inside → Type 0
Clean p faulty = (name : List ℕ) (node : NodeId) (k : Json) → faulty name node k → IsSaid p name node k → ⊥

found_lacking : (o : Option Json) (presence : Presence) (faulty : Json → Type 0) (cause : BuildCause) (path : List Step) → o ≡ None → MayLack presence → IsFoundFault o presence faulty cause path → ⊥
found_lacking (Some j) presence faulty cause path e may f = absurd cc
found_lacking None Presence.Must faulty cause path e may f = may
found_lacking None Presence.May faulty cause path e may f = f
found_lacking None Presence.LeftOut faulty cause path e may f = f
found_lacking None (Presence.Default d) faulty cause path e may f = f

found_given : (o : Option Json) (presence : Presence) (node : NodeId) (c : Content) (faulty says : Json → Type 0) (cause : BuildCause) (path : List Step) → Given o says (IsDefaultAt presence node c)
    → IsFoundFault o presence faulty cause path → ((k : Json) → faulty k → says k → ⊥) → ⊥
found_given (Some j) presence node c faulty says cause path g f clean = clean j f g
found_given None Presence.Must node c faulty says cause path g f clean = g
found_given None Presence.May node c faulty says cause path g f clean = f
found_given None Presence.LeftOut node c faulty says cause path g f clean = f
found_given None (Presence.Default d) node c faulty says cause path g f clean = f

pub rows_clean : (p : Profile) (faulty : Inside) (node : NodeId) (i : ℕ) (rows : List Row) (j : Json) (cause : BuildCause) (step : Step) (rest : List Step) (es : Entries) → Clean p faulty → EntriesSay node i rows j es → FitRows p es rows → AreRowsFaulty faulty p node i rows j cause step rest → ⊥
rows_clean p faulty node i [] j cause step rest es clean s x f = f
rows_clean p faulty node i (row ∷ rows) j cause step rest no_entries clean s x f = s
rows_clean p faulty node i (row ∷ rows) j cause step rest (absent es) clean s x (inl f) = found_lacking (get (row_name node i) j) row.presence _ cause rest s.0 x.0 f.1
rows_clean p faulty node i (row ∷ rows) j cause step rest (present c es) clean s x (inl f) =
    found_given (get (row_name node i) j) row.presence row.node c _ (λ k. Says (row_name node i) row.node k c) cause rest s.0 f.1
    (λ k h t. clean (row_name node i) row.node k h (record { content = c; says = t; fits = x.1 }))
rows_clean p faulty node i (row ∷ rows) j cause step rest (absent es) clean s x (inr f) = rows_clean p faulty node (suc i) rows j cause step rest es clean s.1 x.1 f.1
rows_clean p faulty node i (row ∷ rows) j cause step rest (present c es) clean s x (inr f) = rows_clean p faulty node (suc i) rows j cause step rest es clean s.1 x.2 f.1

-- ---- items

items_clean : (p : Profile) (faulty : Json → Type 0) (says : Json → Type 0) (row : List ℕ) (node : NodeId) (i : ℕ) (js : json.Items) (step : Step) (is : Items) → ((k : Json) → faulty k → IsSaid p row (row_node node 0) k → ⊥)
    → ItemsSay row (row_node node 0) js is → FitItems p is (rows_of node) → AreItemsFaulty faulty says i js step → ⊥
items_clean p faulty says row node i json.no_items step is clean s x f = f
items_clean p faulty says row node i (json.item j js) step no_items clean s x f = s
items_clean p faulty says row node i (json.item j js) step (item c is) clean s x (inl f) =
    clean j f.1 (record { content = c; says = s.0; fits = subst (λ n. Fits p c n) (sym (ap node_or_left_out x.1)) x.2 })
items_clean p faulty says row node i (json.item j js) step (item c is) clean s x (inr f) = items_clean p faulty says row node (suc i) js step is clean s.1 x.3 f.1

-- ---- choices

under_object : (name : List ℕ) (j : Json) (says : Json → Type 0) → (name ≡ [] → ⊥) → Under name j says → (inner : Json) × (j ≡ json.object (json.member name inner json.no_members)) × says inner
under_object [] j says full h = absurd (full refl)
under_object (x ∷ name) j says full h = h

pub carried_clean : (presence : Presence) → IsCarried presence → presence_fault presence ≡ None
carried_clean Presence.Must h = refl
carried_clean Presence.May h = refl
carried_clean (Presence.Default d) h = refl
carried_clean Presence.LeftOut h = absurd h

-- an object of a row that is carried
pub chosen_clean : (node : NodeId) (n : ℕ) (row : Row) (inner : Json) → slice_get (rows_of node) n ≡ Some row → IsCarried row.presence
    → first_fault (of_type node) [] (json.member (row_name node n) inner json.no_members) ≡ None
chosen_clean node n row inner at carried =
    let known : name_fault (of_type node) (row_name node n) ≡ None = ap (place_fault node) (row_place node n row at) ∙ ap row_fault at ∙ carried_clean row.presence carried in
    ap (λ (o : Option BuildCause). elim o as (λ _. Option (List ℕ × BuildCause)) [ None ↦ None | Some c ↦ Some (row_name node n, c) ]) known

pub one_member : (k l : List ℕ) (i j : Json) → json.object (json.member k i json.no_members) ≡ json.object (json.member l j json.no_members) → (k ≡ l) × (i ≡ j)
one_member k l i j e = (cc, cc)

chosen_faulty : (p : Profile) (faulty : Inside) (node : NodeId) (j : Json) (step : Step) → (node ≡ TaggedExternal → ⊥) → Clean p faulty → SaysChoice p node j → IsChosenFaulty faulty node j step → ⊥
chosen_faulty p faulty node j step other clean m f =
    let u = under_object (row_name node m.number) j _ (row_named node m.number m.row other m.at) m.says in
    let s = one_member (row_name node f.0) (row_name node m.number) f.2 u.0 (sym f.4 ∙ u.1) in
    let same : f.0 ≡ m.number = row_once node f.0 m.number f.1 m.row f.3 m.at s.0 in
    let q : Some f.1 ≡ Some m.row = sym f.3 ∙ ap (slice_get (rows_of node)) same ∙ m.at in
    let same_row : f.1 ≡ m.row = cc in
    clean (row_name node m.number) m.row.node u.0
    (subst (λ x. faulty (row_name node m.number) m.row.node x) s.1 (subst (λ (r : Row). faulty (row_name node m.number) r.node f.2) same_row (subst (λ x. faulty x f.1.node f.2) s.0 f.6)))
    (record { content = m.content; says = u.2; fits = m.fits })

-- ---- types

object_of : (j : Json) (node : NodeId) → IsObjectOf (of_type node) j → (cause : BuildCause) (path : List Step) (later : Type 0) → (later → ⊥) → IsObjectFault (of_type node) j cause path later → ⊥
object_of j node h cause path later clean f = let o = object_there (of_type node) j h in object_clean (of_type node) j o.0 cause path later o.1 o.2 clean f

here_clean : (p : Profile) (k : Kind) (row : List ℕ) (node : NodeId) (j : Json) (cause : BuildCause) → (node ≡ TaggedExternal → ⊥) → kind_of node ≡ k → IsSaid p row node j → IsFaultyHere p k row node j cause → ⊥
here_clean p Kind.Seq row node j cause other e m f =
    let o = object_there (of_type node) j (as_sequence p row node j e m).named in absurd (let q : None ≡ Some o.0 = sym f.0 ∙ ap as_object o.1 in cc)
here_clean p Kind.SeqOf row node j cause other e m f =
    let l = as_list p row node j e m in absurd (let q : None ≡ Some l.values = sym f.0 ∙ ap as_array l.array in cc)
here_clean p Kind.Choice row node j cause other e m f =
    let c = as_choice p row node j e m in
    let u = under_object (row_name node c.number) j _ (row_named node c.number c.row other c.at) c.says in
    object_clean (of_type node) j (json.member (row_name node c.number) u.0 json.no_members) cause [] _ u.1 (chosen_clean node c.number c.row u.0 c.at c.carried) (λ x. x.0 (row_name node c.number) u.0 u.1) f
here_clean p (Kind.Leaf k) row node j cause other e m f = leaf_said p row node j cause [] (Kind.Leaf k) tt e m f
here_clean p Kind.IllString row node j cause other e m f = leaf_said p row node j cause [] Kind.IllString tt e m f
here_clean p Kind.Any row node j cause other e m f = open_said p row node j cause [] e m f

at_clean : (p : Profile) (faulty : Inside) (k : Kind) (row : List ℕ) (node : NodeId) (j : Json) (cause : BuildCause) (step : Step) (rest : List Step) → (node ≡ TaggedExternal → ⊥) → Clean p faulty → kind_of node ≡ k → IsSaid p row node j
    → IsFaultyAt faulty p k row node j cause step rest → ⊥
at_clean p faulty Kind.Seq row node j cause step rest other clean e m f =
    let s = as_sequence p row node j e m in
    object_of j node s.named cause (step ∷ rest) _ (rows_clean p faulty node 0 (rows_of node) j cause step rest s.entries clean s.says s.fits) f
at_clean p faulty Kind.SeqOf row node j cause step rest other clean e m f =
    let l = as_list p row node j e m in
    let q : Some f.0 ≡ Some l.values = sym f.1 ∙ ap as_array l.array in
    let same : f.0 ≡ l.values = cc in
    items_clean p (faulty row (row_node node 0)) _ row node 0 l.values step l.content (λ k h t. clean row (row_node node 0) k h t) l.says l.fits
    (subst (λ js. AreItemsFaulty (faulty row (row_node node 0)) (λ k. (c : Content) × Says row (row_node node 0) k c × Fits p c (row_node node 0)) 0 js step) same f.2)
at_clean p faulty Kind.Choice row node j cause step rest other clean e m f =
    let c = as_choice p row node j e m in
    let u = under_object (row_name node c.number) j _ (row_named node c.number c.row other c.at) c.says in
    object_clean (of_type node) j (json.member (row_name node c.number) u.0 json.no_members) cause (step ∷ rest) _ u.1 (chosen_clean node c.number c.row u.0 c.at c.carried) (chosen_faulty p faulty node j step other clean c) f
at_clean p faulty (Kind.Leaf k) row node j cause step rest other clean e m f = leaf_said p row node j cause (step ∷ rest) (Kind.Leaf k) tt e m f
at_clean p faulty Kind.IllString row node j cause step rest other clean e m f = leaf_said p row node j cause (step ∷ rest) Kind.IllString tt e m f
at_clean p faulty Kind.Any row node j cause step rest other clean e m f = open_said p row node j cause (step ∷ rest) e m f

-- what is said under the tag of an EXTERNAL is said of the EXTERNAL, whatever the name of the row
external_said : (p : Profile) (row : List ℕ) (j : Json) → IsSaid p row TaggedExternal j → IsSaid p row External j
external_said p row j m =
    let c = as_choice p row TaggedExternal j refl m in
    by c.number c.row c.at c.content c.says c.fits
  where
    inner : (d : Content) → Says [] External j d → Fits p d External → IsSaid p row External j
    inner (sequence es) s f = record { content = sequence es; says = s; fits = f }
    inner (simple v) s f = absurd (no_leaf (kind_of External) v f.0 f.1 (inl refl))
    inner (list is) s f = absurd (let q : Kind.Seq ≡ Kind.SeqOf = f.0 in cc)
    inner (alternative n d) s f = absurd (let q : Kind.Seq ≡ Kind.Choice = f.1.0 in cc)
    inner (foreign T) s f = absurd (let q : Kind.Seq ≡ Kind.Any = f.0 in cc)

    by : (n : ℕ) (r : Row) → slice_get (rows_of TaggedExternal) n ≡ Some r → (d : Content) → Under (row_name TaggedExternal n) j (λ k. Says (row_name TaggedExternal n) r.node k d) → Fits p d r.node → IsSaid p row External j
    by zero r at d s f = let e : External ≡ r.node = ap node_or_left_out at in inner d (subst (λ x. Says [] x j d) (sym e) s) (subst (Fits p d) (sym e) f)
    by (suc n) r at d s f = absurd (let q : None ≡ Some r = at in cc)

-- under its tag an EXTERNAL is said as it is
shown_said : (p : Profile) (row : List ℕ) (node : NodeId) (j : Json) → IsSaid p row node j → (shown_node node ≡ TaggedExternal → ⊥) × IsSaid p row (shown_node node) j
shown_said p row TaggedExternal j m = ((λ e. absurd cc), external_said p row j m)
shown_said p row _ j m = ((λ e. absurd cc), m)

-- a value that says one has no fault
pub said_clean : (p : Profile) (path : List Step) (row : List ℕ) (node : NodeId) (j : Json) (cause : BuildCause) → IsFaulty p row node j cause path → IsSaid p row node j → ⊥
said_clean p [] row node j cause f m = let s = shown_said p row node j m in here_clean p (kind_of (shown_node node)) row (shown_node node) j cause s.0 refl s.1 f
said_clean p (step ∷ rest) row node j cause f m =
    let s = shown_said p row node j m in
    at_clean p (inside p cause rest) (kind_of (shown_node node)) row (shown_node node) j cause step rest s.0 (λ name inner k g n. said_clean p rest name inner k cause g n) refl s.1 f
