-- A value that is shown is said by what is shown, and so is an APDU.
use Rattle.std.proofs.Common.{◌≡◌, ◌⊎◌, inl, inr, ℕ, suc, ◌-◌, ◌<◌, ◌≤◌, Bool, true, false, ◌||◌, List, [], ◌∷◌, ◌++◌, codes, Option, Some, None, cond, refl, sym, ap, subst, ◌∙◌, arith, slice_get, ℤ}
use Rattle.std.specs.Fmt.{signed_decimal}
use Rattle.std.specs.List.{list_any}
use Rattle.std.specs.Prelude.{if◌then◌else◌}
use Rattle.std.specs.Str.{bytes_eq}
use Rattle.std.proofs.lemmas.List.Folds.{list_any-append}
use Rattle.std.proofs.lemmas.Slice.Eq.{bytes_eq-Decides}
use Rattle.json.specs.Find.{get, get_member, later_or}
use Rattle.json.specs.Json.{Json, Members, number, string}
use Rattle.json.specs.Json as json
use Rattle.ber_leaf.specs.Profile.{Profile}
use Rattle.ber_leaf.specs.Simple.{Simple, flag, whole, date, time, printable, general, visible, null, oid, binary, bits, descriptor}
use Rattle.ill_json.specs.Json.{entry_members, head_members, in_member, item_values, leaf_json, line_json_in, number_json, value_json, with_file}
use Rattle.ill_json.specs.declared.line.LineHead.{LineHead}
use Rattle.ill_json.proofs.OneToOne.{From, from_all, from_here, from_next, row_fits}
use Rattle.ill_schema.specs.Apdu.{Apdu, root}
use Rattle.ill_schema.specs.Content.{Content, simple, sequence, list, alternative, foreign, Entries, no_entries, absent, present, Items, no_items, item}
use Rattle.ill_schema.specs.Fits.{Fits, FitItems, FitRows, FitsApdu}
use Rattle.ill_schema.specs.Presence.{IsCarried}
use Rattle.ill_tables.specs.Names.{node_or_left_out, row_name, row_node}
use Rattle.ill_tables.specs.Numbers.{number_name}
use Rattle.ill_tables.specs.Table.{rows_of}
use Rattle.ill_tables.specs.declared.node.NodeId.{NodeId}
use Rattle.ill_tables.specs.declared.part.Presence.{Presence}
use Rattle.ill_tables.specs.declared.part.Row.{Row}
use Rattle.ill_build.specs.declared.cause.BuildCause.{BuildCause}
use Rattle.ill_build.specs.Line.{IsProfileSaid, SaysLine, line_names, profile_word}
use Rattle.ill_build.specs.Members.{IsObjectOf, Known, of_names, of_type, first_fault, name_fault, place_fault, presence_fault, row_fault}
use Rattle.ill_build.specs.Said.{EntriesSay, Given, IsDefaultOf, ItemsSay, LeafSays, NameSays, Says, Under}
use Rattle.ill_build.specs.Shown.{EachEntry, EachItem, IsInOctets, IsSayable, IsShort}
use Rattle.ill_tables.proofs.DistinctNames.{row_once, same_bytes}
use Rattle.ill_build.proofs.Names.{row_place}

-- ---- members without a fault

-- texts that differ are told apart
other_bytes : (x y : List ℕ) → (x ≡ y → ⊥) → bytes_eq x y ≡ false
other_bytes x y differ = by (bytes_eq x y) refl
  where
    by : (b : Bool) → bytes_eq x y ≡ b → bytes_eq x y ≡ false
    by false e = e
    by true e = absurd (differ ((bytes_eq-Decides x y).0 e))

-- a new name that is known has no fault
no_fault_here : (known : Known) (before : List (List ℕ)) (name : List ℕ) (j : Json) (ms : Members) → list_any (bytes_eq name) before ≡ false → name_fault known name ≡ None
    → first_fault known before (json.member name j ms) ≡ first_fault known (before ++ name ∷ []) ms
no_fault_here known before name j ms new allowed =
    ap (λ (o : Option BuildCause). elim o as (λ _. Option (List ℕ × BuildCause)) [
      | None ↦ first_fault known (before ++ name ∷ []) ms
      | Some cause ↦ Some (name, cause)
    ]) (ap (λ b. if b then Some BuildCause.RepeatedMember else name_fault known name) new ∙ allowed)

-- a row that isn't left out has no fault
not_left_out : (presence : Presence) → IsCarried presence → presence_fault presence ≡ None
not_left_out Presence.Must h = refl
not_left_out Presence.May h = refl
not_left_out (Presence.Default d) h = refl
not_left_out Presence.LeftOut h = absurd h

-- the name of a row that isn't left out is known
row_known : (node : NodeId) (i : ℕ) (row : Row) → slice_get (rows_of node) i ≡ Some row → IsCarried row.presence → name_fault (of_type node) (row_name node i) ≡ None
row_known node i row at carried = ap (place_fault node) (row_place node i row at) ∙ ap row_fault at ∙ not_left_out row.presence carried

-- none of the names is that of a row from row i on
abbrev AreEarlier : NodeId → ℕ → List (List ℕ) → Type 0
AreEarlier node i names = (k : ℕ) (r : Row) → i ≤ k → slice_get (rows_of node) k ≡ Some r → list_any (bytes_eq (row_name node k)) names ≡ false

-- neither is that of row i one from the next row on
earlier_more : (node : NodeId) (i : ℕ) (row : Row) (names : List (List ℕ)) → slice_get (rows_of node) i ≡ Some row → AreEarlier node i names → AreEarlier node (suc i) (names ++ row_name node i ∷ [])
earlier_more node i row names at earlier k r le there =
    let x = row_name node k in
    let none : list_any (bytes_eq x) names ≡ false = earlier k r (omega (arith, le)) there in
    let new : bytes_eq x (row_name node i) ≡ false = other_bytes x (row_name node i) (λ same. let e = row_once node k i r row there at same in absurd (omega (arith, le, e))) in
    list_any-append (bytes_eq x) names (row_name node i ∷ []) ∙ ap (λ b. b || (bytes_eq x (row_name node i) || false)) none ∙ ap (λ b. b || false) new

-- the members of a sequence have no fault
no_fault : (p : Profile) (node : NodeId) (i : ℕ) (rows : List Row) (es : Entries) (before : List (List ℕ)) → From rows i (rows_of node) → FitRows p es rows → AreEarlier node i before
    → first_fault (of_type node) before (entry_members node i es) ≡ None
no_fault p node i rows no_entries before from fit earlier = refl
no_fault p node i [] (absent es) before from fit earlier = absurd fit
no_fault p node i (row ∷ rows) (absent es) before from fit earlier =
    no_fault p node (suc i) rows es before (from_next row rows i (rows_of node) from) fit.1 (λ k r le at. earlier k r (omega (arith, le)) at)
no_fault p node i [] (present c es) before from fit earlier = absurd fit
no_fault p node i (row ∷ rows) (present c es) before from fit earlier =
    let here = from_here row rows i (rows_of node) from in
    let name = row_name node i in
    no_fault_here (of_type node) before name (value_json name (row_node node i) c) (entry_members node (suc i) es) (earlier i row (omega arith) here) (row_known node i row here fit.0)
    ∙ no_fault p node (suc i) rows es (before ++ name ∷ []) (from_next row rows i (rows_of node) from) fit.2 (earlier_more node i row before here earlier)

-- ---- members are found by their names

-- no later member
later_none : (o : Option Json) → later_or o None ≡ o
later_none None = refl
later_none (Some j) = refl

-- a member of another name makes no difference
passed : (name k : List ℕ) (j : Json) (ms : Members) → (k ≡ name → ⊥) → get_member name (json.member k j ms) ≡ get_member name ms
passed name k j ms differ = ap (λ b. later_or (get_member name ms) (cond b (Some j) None)) (other_bytes k name differ) ∙ later_none (get_member name ms)

-- the last one of its name is found
found : (name : List ℕ) (j : Json) (ms : Members) → get_member name ms ≡ None → get_member name (json.member name j ms) ≡ Some j
found name j ms none = ap (λ o. later_or o (cond (bytes_eq name name) (Some j) None)) none ∙ ap (λ b. cond b (Some j) None) (same_bytes name)

-- no entry from row i on has the name of an earlier row
none_later : (p : Profile) (node : NodeId) (k i : ℕ) (r : Row) (rows : List Row) (es : Entries) → slice_get (rows_of node) k ≡ Some r → k < i → From rows i (rows_of node) → FitRows p es rows
    → get_member (row_name node k) (entry_members node i es) ≡ None
none_later p node k i r rows no_entries at lt from fit = refl
none_later p node k i r [] (absent es) at lt from fit = absurd fit
none_later p node k i r (row ∷ rows) (absent es) at lt from fit = none_later p node k (suc i) r rows es at (omega (arith, lt)) (from_next row rows i (rows_of node) from) fit.1
none_later p node k i r [] (present c es) at lt from fit = absurd fit
none_later p node k i r (row ∷ rows) (present c es) at lt from fit =
    passed (row_name node k) (row_name node i) (value_json (row_name node i) (row_node node i) c) (entry_members node (suc i) es) (λ e. let same = row_once node i k row r (from_here row rows i (rows_of node) from) at e in absurd (omega (arith, lt, same)))
    ∙ none_later p node k (suc i) r rows es at (omega (arith, lt)) (from_next row rows i (rows_of node) from) fit.2

-- ---- leaves

-- a number, with its name or without one
number_said : (row : List ℕ) (n : ℤ) (name : Option (List ℕ)) → (number_json n name ≡ number (signed_decimal n)) ⊎ NameSays name n (number_json n name)
number_said row n None = inl refl
number_said row n (Some name) = inr (inr (refl, refl, refl))

-- a leaf
leaf_said : (row : List ℕ) (v : Simple) → IsShort v → LeafSays row (leaf_json row v) v
leaf_said row (flag b) short = refl
leaf_said row (whole n) short = number_said row n (number_name row n)
leaf_said row (date o) short = refl
leaf_said row (time o) short = refl
leaf_said row (printable o) short = refl
leaf_said row (general o) short = refl
leaf_said row (visible o) short = refl
leaf_said row null short = refl
leaf_said row (oid o) short = refl
leaf_said row (binary o) short = refl
leaf_said row (bits n o) short = (short, (refl, refl, refl))
leaf_said row (descriptor o) short = refl

-- a value under the name of its alternative
under : (name : List ℕ) (v : Json) (says : Json → Type 0) → says v → Under name (in_member name v) says
under [] v says h = h
under (letter ∷ name) v says h = (v, refl, h)

-- ---- values

-- the members of the whole object are found as those from row i on
abbrev Finds : NodeId → ℕ → Members → Entries → Type 0
Finds node i all es = (k : ℕ) (r : Row) → i ≤ k → slice_get (rows_of node) k ≡ Some r → get_member (row_name node k) all ≡ get_member (row_name node k) (entry_members node i es)

mutual
  -- a value that fits is said by its JSON
  pub value_said : (p : Profile) (row : List ℕ) (node : NodeId) (c : Content) → Fits p c node → IsSayable c → Says row node (value_json row node c) c
  value_said p row node (simple v) fit short = leaf_said row v short
  value_said p row node (sequence es) fit short = (
    no_fault p node 0 (rows_of node) es [] (from_all (rows_of node)) fit.1 (λ k r le at. refl),
    entries_said p node 0 (rows_of node) es (entry_members node 0 es) (from_all (rows_of node)) fit.1 short (λ k r le at. refl),
  )
  value_said p row node (list is) fit short = (item_values row (row_node node 0) is, refl, items_said p row node is fit.1 short)
  value_said p row node (alternative n c) fit short =
      under (row_name node n) (value_json (row_name node n) (row_node node n) c) (λ j. Says (row_name node n) (row_node node n) j c)
      (value_said p (row_name node n) (row_node node n) c (row_fits p node n c fit.0 fit.1.1 fit.2) short)
  value_said p row node (foreign T) fit short = (short, refl)

  entries_said : (p : Profile) (node : NodeId) (i : ℕ) (rows : List Row) (es : Entries) (all : Members) → From rows i (rows_of node) → FitRows p es rows → EachEntry IsShort IsInOctets es → Finds node i all es
      → EntriesSay node i rows (json.object all) es
  entries_said p node i [] no_entries all from fit short finds = tt
  entries_said p node i (row ∷ rows) no_entries all from fit short finds = absurd fit
  entries_said p node i [] (absent es) all from fit short finds = absurd fit
  entries_said p node i [] (present c es) all from fit short finds = absurd fit
  entries_said p node i (row ∷ rows) (absent es) all from fit short finds =
      let here = from_here row rows i (rows_of node) from in
      let next = from_next row rows i (rows_of node) from in (
        finds i row (omega arith) here ∙ none_later p node i (suc i) row rows es here (omega arith) next fit.1,
        entries_said p node (suc i) rows es all next fit.1 short (λ k r le at. finds k r (omega (arith, le)) at),
      )
  entries_said p node i (row ∷ rows) (present c es) all from fit short finds =
      let here = from_here row rows i (rows_of node) from in
      let next = from_next row rows i (rows_of node) from in
      let name = row_name node i in
      let v = value_json name (row_node node i) c in
      let got : get_member name all ≡ Some v = finds i row (omega arith) here ∙ found name v (entry_members node (suc i) es) (none_later p node i (suc i) row rows es here (omega arith) next fit.2) in
      let inner : Says name row.node v c =
      subst (λ x. Says name x (value_json name (row_node node i) c) c) (ap node_or_left_out here) (value_said p name (row_node node i) c (row_fits p node i c row here fit.1) short.0) in (
        subst (λ o. Given o (λ x. Says name row.node x c) (IsDefaultOf row c)) (sym got) inner,
        entries_said p node (suc i) rows es all next fit.2 short.1
            (λ k r le at. finds k r (omega (arith, le)) at
            ∙ passed (row_name node k) name v (entry_members node (suc i) es) (λ e. let same = row_once node i k row r here at e in absurd (omega (arith, le, same)))),
      )

  items_said : (p : Profile) (row : List ℕ) (node : NodeId) (is : Items) → FitItems p is (rows_of node) → EachItem IsShort IsInOctets is → ItemsSay row (row_node node 0) (item_values row (row_node node 0) is) is
  items_said p row node no_items fit short = tt
  items_said p row node (item c is) fit short =
      (value_said p row (row_node node 0) c (row_fits p node 0 c fit.0 fit.1 fit.2) short.0, items_said p row node is fit.3 short.1)

-- ---- lines

-- the members of a line, with its value
abbrev members_with : Bool → Option (List ℕ) → LineHead → List ℕ → Json → Members
members_with full file head apdu v = with_file file (head_members full head apdu (json.member (codes "value") v json.no_members))

-- a line has members that it may have, each once
line_known : (full : Bool) (file : Option (List ℕ)) (head : LineHead) (apdu : List ℕ) (v : Json) → IsObjectOf (of_names line_names) (json.object (members_with full file head apdu v))
line_known false None head apdu v = refl
line_known true None head apdu v = refl
line_known false (Some name) head apdu v = refl
line_known true (Some name) head apdu v = refl

-- it is of its profile
profile_said : (p : Profile) (full : Bool) (file : Option (List ℕ)) (head : LineHead) (apdu : List ℕ) (v : Json) → p.full ≡ full
    → IsProfileSaid p (get (codes "profile") (json.object (members_with full file head apdu v)))
profile_said p false None head apdu v e = tt
profile_said p false (Some name) head apdu v e = tt
profile_said p true None head apdu v e = ap (λ b. string (profile_word b)) (sym e)
profile_said p true (Some name) head apdu v e = ap (λ b. string (profile_word b)) (sym e)

-- it names its APDU
apdu_named : (full : Bool) (file : Option (List ℕ)) (head : LineHead) (apdu : List ℕ) (v : Json) → get (codes "apdu") (json.object (members_with full file head apdu v)) ≡ Some (string apdu)
apdu_named false None head apdu v = refl
apdu_named true None head apdu v = refl
apdu_named false (Some name) head apdu v = refl
apdu_named true (Some name) head apdu v = refl

-- and has its value
value_there : (full : Bool) (file : Option (List ℕ)) (head : LineHead) (apdu : List ℕ) (v : Json) → get (codes "value") (json.object (members_with full file head apdu v)) ≡ Some v
value_there false None head apdu v = refl
value_there true None head apdu v = refl
value_there false (Some name) head apdu v = refl
value_there true (Some name) head apdu v = refl

-- an APDU that fits is said by its line
pub line_said : (p : Profile) (file : Option (List ℕ)) (head : LineHead) (a : Apdu) → FitsApdu p a → IsSayable a.body → SaysLine p (line_json_in p file head a) a
line_said p file head a fit short =
    let n = a.number - 1 in
    let name = row_name (root p) n in
    let v = value_json [] (row_node (root p) n) a.body in
    record {
      known = line_known p.full file head name v;
      profile = profile_said p p.full file head name v refl;
      apdu = apdu_named p.full file head name v;
      said = (v, value_there p.full file head name v, value_said p [] (row_node (root p) n) a.body (row_fits p (root p) n a.body fit.1.0 fit.1.1.1 fit.1.2) short);
    }
