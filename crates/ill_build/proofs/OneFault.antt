-- A value of a type, and a line, has at most one fault.
use Rattle.std.proofs.Common.{◌≡◌, ◌⊎◌, inl, inr, ◌∷◌, ◌∙◌, ◌<◌, ℕ, suc, List, [], Some, None, length, refl, sym, ap, subst, arith, codes, slice_get}
use Rattle.json.specs.Find.{as_str, get}
use Rattle.json.specs.Json.{Json}
use Rattle.json.specs.Json as json
use Rattle.ber_leaf.specs.Profile.{Profile}
use Rattle.ill_schema.specs.Apdu.{Apdu, normal_form_in, root}
use Rattle.ill_schema.specs.Content.{Content}
use Rattle.ill_schema.specs.Fits.{Fits, FitsApdu}
use Rattle.ill_tables.specs.Names.{row_name, row_node}
use Rattle.ill_tables.specs.Table.{kind_of, rows_of}
use Rattle.ill_tables.specs.declared.node.Kind.{Kind}
use Rattle.ill_tables.specs.declared.node.NodeId.{NodeId}
use Rattle.ill_tables.specs.declared.part.Row.{Row}
use Rattle.ill_build.specs.declared.cause.BuildCause.{BuildCause}
use Rattle.ill_build.specs.Faulty.{AreItemsFaulty, AreRowsFaulty, Inside, IsChosenFaulty, IsFaultOf, IsFaulty, IsFaultyAt, IsFaultyHere, IsMemberFault, shown_node}
use Rattle.ill_build.specs.Line.{HasProfileFault, IsApduFault, IsFaultyLine, IsLineFault, IsProfileFault, IsProfileSaid, NamesApdu, SaysLine, apdu_cause, line_names}
use Rattle.ill_build.specs.Members.{of_names, of_type}
use Rattle.ill_build.specs.Path.{Step, named}
use Rattle.ill_build.specs.Said.{Says}
use Rattle.ill_build.specs.code.Refused.{inside}
use Rattle.ill_build.proofs.LeavesUnsaid.{member_clean, text_clean}
use Rattle.ill_build.proofs.LinesUnsaid.{name_clean, profile_clean, value_clean}
use Rattle.ill_tables.proofs.DistinctNames.{row_once}
use Rattle.ill_build.proofs.OneLeafFault.{Same, behind, both_are, found_once, leaf_once, member_once, object_once, text_once}
use Rattle.ill_build.proofs.Unsaid.{Clean, one_member, rows_clean, said_clean}

-- faults at the rest of a path, where both are one fault
abbrev AreOne : Inside → Inside → BuildCause → BuildCause → List Step → List Step → Type 0
AreOne faulty other c d rest steps = (name : List ℕ) (node : NodeId) (k : Json) → faulty name node k → other name node k → Same c d rest steps

-- behind the same step
taken : {c d : BuildCause} {rest steps : List Step} {step stop : Step} → step ≡ stop → Same c d rest steps → Same c d (step ∷ rest) (stop ∷ steps)
taken {rest = rest} {stop = stop} e s = (s.0, ap (λ x. x ∷ rest) e ∙ ap (λ r. stop ∷ r) s.1)

no_step : (step : Step) (rest : List Step) → [] ≡ step ∷ rest → ⊥
no_step step rest e = absurd cc

-- ---- rows, items and choices

-- the first row that has a fault
rows_once : (p : Profile) (faulty other : Inside) (node : NodeId) (i : ℕ) (rows : List Row) (j : Json) (c d : BuildCause) (rest steps : List Step) (step stop : Step) → AreOne faulty other c d rest steps → Clean p faulty → Clean p other
    → AreRowsFaulty faulty p node i rows j c step rest → AreRowsFaulty other p node i rows j d stop steps → Same c d (step ∷ rest) (stop ∷ steps)
rows_once p faulty other node i [] j c d rest steps step stop one clean clear f g = absurd f
rows_once p faulty other node i (row ∷ rows) j c d rest steps step stop one clean clear (inl f) (inl g) =
    taken (f.0 ∙ sym g.0)
    (found_once (get (row_name node i) j) row.presence (λ k. faulty (row_name node i) row.node k) (λ k. other (row_name node i) row.node k) c d rest steps
    (λ k x y. one (row_name node i) row.node k x y) f.1 g.1)
rows_once p faulty other node i (row ∷ rows) j c d rest steps step stop one clean clear (inl f) (inr g) =
    absurd (rows_clean p faulty node i (row ∷ []) j c step rest g.0.0 clean g.0.1 g.0.2 (inl f))
rows_once p faulty other node i (row ∷ rows) j c d rest steps step stop one clean clear (inr f) (inl g) =
    absurd (rows_clean p other node i (row ∷ []) j d stop steps f.0.0 clear f.0.1 f.0.2 (inl g))
rows_once p faulty other node i (row ∷ rows) j c d rest steps step stop one clean clear (inr f) (inr g) =
    rows_once p faulty other node (suc i) rows j c d rest steps step stop one clean clear f.1 g.1

-- the first item that has a fault
items_once : (faulty other says : Json → Type 0) (i : ℕ) (js : json.Items) (c d : BuildCause) (rest steps : List Step) (step stop : Step) → ((k : Json) → faulty k → other k → Same c d rest steps)
    → ((k : Json) → faulty k → says k → ⊥) → ((k : Json) → other k → says k → ⊥)
    → AreItemsFaulty faulty says i js step → AreItemsFaulty other says i js stop → Same c d (step ∷ rest) (stop ∷ steps)
items_once faulty other says i json.no_items c d rest steps step stop one clean clear f g = absurd f
items_once faulty other says i (json.item k js) c d rest steps step stop one clean clear (inl f) (inl g) = taken (f.0 ∙ sym g.0) (one k f.1 g.1)
items_once faulty other says i (json.item k js) c d rest steps step stop one clean clear (inl f) (inr g) = absurd (clean k f.1 g.0)
items_once faulty other says i (json.item k js) c d rest steps step stop one clean clear (inr f) (inl g) = absurd (clear k g.1 f.0)
items_once faulty other says i (json.item k js) c d rest steps step stop one clean clear (inr f) (inr g) = items_once faulty other says (suc i) js c d rest steps step stop one clean clear f.1 g.1

-- the one member of an object, of one row
chosen_once : (faulty other : Inside) (node : NodeId) (j : Json) (c d : BuildCause) (rest steps : List Step) (step stop : Step) → AreOne faulty other c d rest steps
    → IsChosenFaulty faulty node j step → IsChosenFaulty other node j stop → Same c d (step ∷ rest) (stop ∷ steps)
chosen_once faulty other node j c d rest steps step stop one f g =
    let s = one_member (row_name node f.0) (row_name node g.0) f.2 g.2 (sym f.4 ∙ g.4) in
    let same : f.0 ≡ g.0 = row_once node f.0 g.0 f.1 g.1 f.3 g.3 s.0 in
    let q : Some f.1 ≡ Some g.1 = sym f.3 ∙ ap (slice_get (rows_of node)) same ∙ g.3 in
    let same_row : f.1 ≡ g.1 = cc in
    let moved : faulty (row_name node g.0) g.1.node g.2 =
    subst (λ x. faulty (row_name node g.0) g.1.node x) s.1 (subst (λ (r : Row). faulty (row_name node g.0) r.node f.2) same_row (subst (λ x. faulty x f.1.node f.2) s.0 f.6)) in
    taken (f.5 ∙ ap (λ x. named x) s.0 ∙ sym g.5) (one (row_name node g.0) g.1.node g.2 moved g.6)

-- ---- types

-- the fault of the value itself
here_once : (p : Profile) (k : Kind) (row : List ℕ) (node : NodeId) (j : Json) (c d : BuildCause) → IsFaultyHere p k row node j c → IsFaultyHere p k row node j d → c ≡ d
here_once p Kind.Seq row node j c d f g = f.1 ∙ sym g.1
here_once p Kind.SeqOf row node j c d f g = f.1 ∙ sym g.1
here_once p Kind.Choice row node j c d f g = (object_once (of_type node) j c d [] [] _ _ (λ x y. both_are x.1 y.1 refl refl) f g).0
here_once p (Kind.Leaf l) row node j c d f g = (leaf_once p (Kind.Leaf l) row j c d [] [] f g).0
here_once p Kind.IllString row node j c d f g = (leaf_once p Kind.IllString row j c d [] [] f g).0
here_once p Kind.Any row node j c d f g = (leaf_once p Kind.Any row j c d [] [] f g).0

-- a value that has a fault itself has none at a step
here_at : (p : Profile) (other : Inside) (k : Kind) (row : List ℕ) (node : NodeId) (j : Json) (c d : BuildCause) (step : Step) (rest : List Step) → IsFaultyHere p k row node j c → IsFaultyAt other p k row node j d step rest → ⊥
here_at p other Kind.Seq row node j c d step rest f (inl g) = no_step step rest (sym g.2)
here_at p other Kind.Seq row node j c d step rest f (inr (ms, is, g)) = absurd (let q : None ≡ Some ms = sym f.0 ∙ is in cc)
here_at p other Kind.SeqOf row node j c d step rest f g = absurd (let q : None ≡ Some g.0 = sym f.0 ∙ g.1 in cc)
here_at p other Kind.Choice row node j c d step rest f g =
    no_step step rest (object_once (of_type node) j c d [] (step ∷ rest) _ _ (λ x y. absurd (x.0 (row_name node y.0) y.2 y.4)) f g).1
here_at p other (Kind.Leaf l) row node j c d step rest f g = no_step step rest (leaf_once p (Kind.Leaf l) row j c d [] (step ∷ rest) f g).1
here_at p other Kind.IllString row node j c d step rest f g = no_step step rest (leaf_once p Kind.IllString row j c d [] (step ∷ rest) f g).1
here_at p other Kind.Any row node j c d step rest f g = no_step step rest (leaf_once p Kind.Any row j c d [] (step ∷ rest) f g).1

-- the fault at a step
at_once : (p : Profile) (faulty other : Inside) (k : Kind) (row : List ℕ) (node : NodeId) (j : Json) (c d : BuildCause) (rest steps : List Step) (step stop : Step) → AreOne faulty other c d rest steps → Clean p faulty → Clean p other
    → IsFaultyAt faulty p k row node j c step rest → IsFaultyAt other p k row node j d stop steps → Same c d (step ∷ rest) (stop ∷ steps)
at_once p faulty other Kind.Seq row node j c d rest steps step stop one clean clear f g =
    object_once (of_type node) j c d (step ∷ rest) (stop ∷ steps) _ _ (λ x y. rows_once p faulty other node 0 (rows_of node) j c d rest steps step stop one clean clear x y) f g
at_once p faulty other Kind.SeqOf row node j c d rest steps step stop one clean clear f g =
    let q : Some f.0 ≡ Some g.0 = sym f.1 ∙ g.1 in
    let same : f.0 ≡ g.0 = cc in
    items_once (faulty row (row_node node 0)) (other row (row_node node 0)) (λ k. (content : Content) × Says row (row_node node 0) k content × Fits p content (row_node node 0)) 0 g.0 c d rest steps step stop
    (λ k x y. one row (row_node node 0) k x y)
    (λ k x s. clean row (row_node node 0) k x (record { content = s.0; says = s.1; fits = s.2 }))
    (λ k x s. clear row (row_node node 0) k x (record { content = s.0; says = s.1; fits = s.2 }))
    (subst (λ js. AreItemsFaulty (faulty row (row_node node 0)) (λ k. (content : Content) × Says row (row_node node 0) k content × Fits p content (row_node node 0)) 0 js step) same f.2) g.2
at_once p faulty other Kind.Choice row node j c d rest steps step stop one clean clear f g =
    object_once (of_type node) j c d (step ∷ rest) (stop ∷ steps) _ _ (λ x y. chosen_once faulty other node j c d rest steps step stop one x y) f g
at_once p faulty other (Kind.Leaf l) row node j c d rest steps step stop one clean clear f g = leaf_once p (Kind.Leaf l) row j c d (step ∷ rest) (stop ∷ steps) f g
at_once p faulty other Kind.IllString row node j c d rest steps step stop one clean clear f g = leaf_once p Kind.IllString row j c d (step ∷ rest) (stop ∷ steps) f g
at_once p faulty other Kind.Any row node j c d rest steps step stop one clean clear f g = leaf_once p Kind.Any row j c d (step ∷ rest) (stop ∷ steps) f g

-- a value of a type has one fault
pub one_fault : (p : Profile) (path place : List Step) (row : List ℕ) (node : NodeId) (j : Json) (c d : BuildCause) → IsFaulty p row node j c path → IsFaulty p row node j d place → Same c d path place
one_fault p [] [] row node j c d f g = (here_once p (kind_of (shown_node node)) row (shown_node node) j c d f g, refl)
one_fault p [] (stop ∷ steps) row node j c d f g = absurd (here_at p (inside p d steps) (kind_of (shown_node node)) row (shown_node node) j c d stop steps f g)
one_fault p (step ∷ rest) [] row node j c d f g = absurd (here_at p (inside p c rest) (kind_of (shown_node node)) row (shown_node node) j d c step rest g f)
one_fault p (step ∷ rest) (stop ∷ steps) row node j c d f g =
    at_once p (inside p c rest) (inside p d steps) (kind_of (shown_node node)) row (shown_node node) j c d rest steps step stop
    (λ name inner k x y. one_fault p rest steps name inner k c d x y)
    (λ name inner k x s. said_clean p rest name inner k c x s)
    (λ name inner k x s. said_clean p steps name inner k d x s) f g

-- ---- lines

-- the text of the profile has one cause
profile_one : (p : Profile) (text : List ℕ) (c d : BuildCause) → IsProfileFault p text c → IsProfileFault p text d → c ≡ d
profile_one p text c d (inl f) (inl g) = f.1 ∙ sym g.1
profile_one p text c d (inl f) (inr g) = absurd (g.1 f.0)
profile_one p text c d (inr f) (inl g) = absurd (f.1 g.0)
profile_one p text c d (inr f) (inr g) = f.2 ∙ sym g.2

profile_once : (p : Profile) (j : Json) (c d : BuildCause) (path place : List Step) → HasProfileFault p j c path → HasProfileFault p j d place → Same c d path place
profile_once p j c d path place f g =
    let q : Some f.0 ≡ Some g.0 = sym f.2 ∙ g.2 in
    let same : f.0 ≡ g.0 = cc in
    behind f.3 g.3
    (text_once (as_str g.0) (IsProfileFault p) (IsProfileFault p) c d f.1 g.1 (λ text x y. profile_one p text c d x y) (subst (λ k. IsFaultOf (as_str k) (IsProfileFault p) c f.1) same f.4) g.4)

-- the name of an APDU has one cause
apdu_one : (p : Profile) (text : List ℕ) (c d : BuildCause) → IsApduFault p text c → IsApduFault p text d → c ≡ d
apdu_one p text c d f g =
    let q : Some f.0 ≡ Some g.0 = sym f.1 ∙ g.1 in
    let same : f.0 ≡ g.0 = cc in
    f.2 ∙ ap apdu_cause same ∙ sym g.2

-- a line that says a row of ILL-APDU has no fault there
apdu_said : (p : Profile) (j : Json) (i : ℕ) (row : Row) (cause : BuildCause) (path : List Step) → NamesApdu p j i row
    → IsMemberFault (codes "apdu") (λ k. IsFaultOf (as_str k) (IsApduFault p)) j cause path → ⊥
apdu_said p j i row cause path names f =
    member_clean (codes "apdu") (λ k. IsFaultOf (as_str k) (IsApduFault p)) j (json.string (row_name (root p) i)) cause path names.name
    (λ steps g. text_clean (Some (row_name (root p) i)) (row_name (root p) i) (IsApduFault p) cause steps refl (name_clean p i row cause names.at names.carried) g) f

-- a line says one row of ILL-APDU
one_row : (p : Profile) (j : Json) (i n : ℕ) (row own : Row) → NamesApdu p j i row → NamesApdu p j n own → row ≡ own
one_row p j i n row own x y =
    let q : Some (json.string (row_name (root p) i)) ≡ Some (json.string (row_name (root p) n)) = sym x.name ∙ y.name in
    let name : row_name (root p) i ≡ row_name (root p) n = cc in
    let same : i ≡ n = row_once (root p) i n row own x.at y.at name in
    let r : Some row ≡ Some own = sym x.at ∙ ap (slice_get (rows_of (root p))) same ∙ y.at in
    cc

-- the fault of the value of a row, or else of the size of the normal form
abbrev IsBodyFault : Profile → Row → Json → BuildCause → List Step → Type 0
IsBodyFault p row j cause path =
    IsMemberFault (codes "value") (λ k. IsFaulty p [] row.node k) j cause path
    ⊎ ((a : Apdu) × SaysLine p j a × FitsApdu p a × (p.limit < length (normal_form_in p a)) × (cause ≡ BuildCause.NormalTooLong) × (path ≡ []))

body_once : (p : Profile) (j : Json) (i n : ℕ) (row own : Row) (c d : BuildCause) (path place : List Step) → NamesApdu p j i row → NamesApdu p j n own
    → IsBodyFault p row j c path → IsBodyFault p own j d place → Same c d path place
body_once p j i n row own c d path place x y (inl f) (inl g) =
    let same : row ≡ own = one_row p j i n row own x y in
    member_once (codes "value") (λ k. IsFaulty p [] row.node k) (λ k. IsFaulty p [] own.node k) j c d path place
    (λ k rest steps v w. one_fault p rest steps [] own.node k c d (subst (λ (r : Row). IsFaulty p [] r.node k c rest) same v) w) f g
body_once p j i n row own c d path place x y (inl f) (inr g) = absurd (value_clean p j g.0 i row c path g.2 g.1 x f)
body_once p j i n row own c d path place x y (inr f) (inl g) = absurd (value_clean p j f.0 n own d place f.2 f.1 y g)
body_once p j i n row own c d path place x y (inr f) (inr g) = both_are f.4 g.4 f.5 g.5

-- the fault of the profile, or else of the name of the APDU, or else of what that row has
abbrev IsPartFault : Profile → Json → BuildCause → List Step → Type 0
IsPartFault p j cause path =
    HasProfileFault p j cause path
    ⊎ (IsProfileSaid p (get (codes "profile") j) × (
    IsMemberFault (codes "apdu") (λ k. IsFaultOf (as_str k) (IsApduFault p)) j cause path
    ⊎ ((i : ℕ) × (row : Row) × NamesApdu p j i row × IsBodyFault p row j cause path)
    ))

part_once : (p : Profile) (j : Json) (c d : BuildCause) (path place : List Step) → IsPartFault p j c path → IsPartFault p j d place → Same c d path place
part_once p j c d path place (inl f) (inl g) = profile_once p j c d path place f g
part_once p j c d path place (inl f) (inr (said, g)) = absurd (profile_clean p j c path said f)
part_once p j c d path place (inr (said, f)) (inl g) = absurd (profile_clean p j d place said g)
part_once p j c d path place (inr (said, inl f)) (inr (told, inl g)) =
    member_once (codes "apdu") (λ k. IsFaultOf (as_str k) (IsApduFault p)) (λ k. IsFaultOf (as_str k) (IsApduFault p)) j c d path place
    (λ k rest steps x y. text_once (as_str k) (IsApduFault p) (IsApduFault p) c d rest steps (λ text v w. apdu_one p text c d v w) x y) f g
part_once p j c d path place (inr (said, inl f)) (inr (told, inr (i, row, names, g))) = absurd (apdu_said p j i row c path names f)
part_once p j c d path place (inr (said, inr (i, row, names, f))) (inr (told, inl g)) = absurd (apdu_said p j i row d place names g)
part_once p j c d path place (inr (said, inr (i, row, x, f))) (inr (told, inr (n, own, y, g))) = body_once p j i n row own c d path place x y f g

-- a value of a line has one fault
pub one_part_fault : (p : Profile) (j : Json) (c d : BuildCause) (path place : List Step) → IsLineFault p j c path → IsLineFault p j d place → Same c d path place
one_part_fault p j c d path place f g = object_once (of_names line_names) j c d path place _ _ (λ x y. part_once p j c d path place x y) f g

-- a line has one fault
pub one_line_fault : (p : Profile) (line : List ℕ) (c d : BuildCause) (path place : List Step) → IsFaultyLine p line c path → IsFaultyLine p line d place → Same c d path place
one_line_fault p line c d path place (inl f) (inl g) = both_are f.1 g.1 f.2 g.2
one_line_fault p line c d path place (inl f) (inr (inl g)) = absurd (let long = f.0 in let short = g.0 in omega (arith, long, short))
one_line_fault p line c d path place (inl f) (inr (inr g)) = absurd (let long = f.0 in let short = g.0 in omega (arith, long, short))
one_line_fault p line c d path place (inr (inl f)) (inl g) = absurd (let long = g.0 in let short = f.0 in omega (arith, long, short))
one_line_fault p line c d path place (inr (inr f)) (inl g) = absurd (let long = g.0 in let short = f.0 in omega (arith, long, short))
one_line_fault p line c d path place (inr (inl f)) (inr (inl g)) = both_are f.2 g.2 f.3 g.3
one_line_fault p line c d path place (inr (inl f)) (inr (inr (short, utf8, (j, is, g)))) = absurd (let q : None ≡ Some j = sym (f.1 utf8) ∙ is in cc)
one_line_fault p line c d path place (inr (inr (short, utf8, (j, is, f)))) (inr (inl g)) = absurd (let q : None ≡ Some j = sym (g.1 utf8) ∙ is in cc)
one_line_fault p line c d path place (inr (inr (short, utf8, (j, is, f)))) (inr (inr (brief, valid, (k, at, g)))) =
    let q : Some j ≡ Some k = sym is ∙ at in
    let same : j ≡ k = cc in
    one_part_fault p k c d path place (subst (λ x. IsLineFault p x c path) same f) g
