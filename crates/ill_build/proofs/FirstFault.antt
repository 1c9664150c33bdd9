-- The first fault of an object's members, and what its absence says of each.
use Rattle.std.proofs.Common.{◌≡◌, ◌≤◌, ℕ, suc, Bool, true, false, List, [], ◌∷◌, ◌++◌, length, take, drop, map, Option, Some, None, cond, refl, sym, ap, subst, ◌∙◌, slice_get}
use Rattle.std.specs.Borrow.{Bor}
use Rattle.std.specs.List.{list_any}
use Rattle.std.specs.Prelude.{if◌then◌else◌}
use Rattle.std.specs.Str.{bytes_eq}
use Rattle.std.proofs.lemmas.Slice.Eq.{bytes_eq-Decides}
use Rattle.json.specs.Find.{get, get_member, later_or}
use Rattle.json.specs.Json.{Json, Members, no_members, member, object}
use Rattle.json.specs.Value.{members_view}
use Rattle.json.specs.declared.value.Value.{Value}
use Rattle.ill_schema.specs.Presence.{IsCarried}
use Rattle.ill_tables.specs.Names.{row_name}
use Rattle.ill_tables.specs.Table.{rows_of}
use Rattle.ill_tables.specs.declared.node.NodeId.{NodeId}
use Rattle.ill_tables.specs.declared.part.Presence.{Presence}
use Rattle.ill_tables.specs.declared.part.Row.{Row}
use Rattle.ill_build.specs.declared.cause.BuildCause.{BuildCause}
use Rattle.ill_build.specs.Members.{IsObjectOf, Known, of_type, first_fault, member_fault, name_fault, place_fault, place_of, presence_fault, row_fault}
use Rattle.ill_build.specs.code.Views.{name_of_member}
use Rattle.ill_build.proofs.Lists.{drop_at, past, seen_more}
use Rattle.ill_build.proofs.Names.{place_name, row_place}

abbrev Found : Type 0
Found = Option (List ℕ × BuildCause)

-- ---- a walk from the front

-- the first fault of the members from member k on, behind those before it
abbrev pub fault_from : {A : Type 0} → Known → List (Bor (List ℕ) × Value A) → ℕ → Option (List ℕ × BuildCause)
fault_from known ms k = first_fault known (map name_of_member (take k ms)) (members_view (drop k ms))

pub fault_here : {A : Type 0} (known : Known) (ms : List (Bor (List ℕ) × Value A)) (k : ℕ) (m : Bor (List ℕ) × Value A) (cause : BuildCause) → slice_get ms k ≡ Some m
    → member_fault known (map name_of_member (take k ms)) m.0.now ≡ Some cause → fault_from known ms k ≡ Some (m.0.now, cause)
fault_here known ms k m cause at e =
    ap (λ xs. first_fault known (map name_of_member (take k ms)) (members_view xs)) (drop_at ms k m at)
    ∙ ap (λ (o : Option BuildCause). elim o as (λ _. Found) [
      | None ↦ first_fault known (map name_of_member (take k ms) ++ m.0.now ∷ []) (members_view (drop (suc k) ms))
      | Some c ↦ Some (m.0.now, c)
    ]) e

pub fault_later : {A : Type 0} (known : Known) (ms : List (Bor (List ℕ) × Value A)) (k : ℕ) (m : Bor (List ℕ) × Value A) → slice_get ms k ≡ Some m
    → member_fault known (map name_of_member (take k ms)) m.0.now ≡ None → fault_from known ms k ≡ fault_from known ms (suc k)
fault_later known ms k m at e =
    ap (λ xs. first_fault known (map name_of_member (take k ms)) (members_view xs)) (drop_at ms k m at)
    ∙ ap (λ (o : Option BuildCause). elim o as (λ _. Found) [
      | None ↦ first_fault known (map name_of_member (take k ms) ++ m.0.now ∷ []) (members_view (drop (suc k) ms))
      | Some c ↦ Some (m.0.now, c)
    ]) e
    ∙ ap (λ before. first_fault known before (members_view (drop (suc k) ms))) (sym (seen_more name_of_member ms k m at))

pub no_fault_left : {A : Type 0} (known : Known) (ms : List (Bor (List ℕ) × Value A)) (k : ℕ) → length ms ≤ k → fault_from known ms k ≡ None
no_fault_left known ms k h = ap (λ xs. first_fault known (map name_of_member (take k ms)) (members_view xs)) (past ms k h)

-- ---- members without a fault

no_fault_cases : (known : Known) (before : List (List ℕ)) (name : List ℕ) (j : Json) (ms : Members) → first_fault known before (member name j ms) ≡ None
    → (member_fault known before name ≡ None) × (first_fault known (before ++ name ∷ []) ms ≡ None)
no_fault_cases known before name j ms h = by (member_fault known before name) refl
  where
    by : (o : Option BuildCause) → member_fault known before name ≡ o → (member_fault known before name ≡ None) × (first_fault known (before ++ name ∷ []) ms ≡ None)
    by None e = (e, sym (ap (λ (o : Option BuildCause). elim o as (λ _. Found) [ None ↦ first_fault known (before ++ name ∷ []) ms | Some c ↦ Some (name, c) ]) e) ∙ h)
    by (Some c) e = absurd (let q : Some (name, c) ≡ None = sym (ap (λ (o : Option BuildCause). elim o as (λ _. Found) [ None ↦ first_fault known (before ++ name ∷ []) ms | Some d ↦ Some (name, d) ]) e) ∙ h in cc)

alone : (known : Known) (before : List (List ℕ)) (name : List ℕ) → member_fault known before name ≡ None → name_fault known name ≡ None
alone known before name h = by (list_any (bytes_eq name) before) refl
  where
    by : (b : Bool) → list_any (bytes_eq name) before ≡ b → name_fault known name ≡ None
    by true e = absurd (let q : Some BuildCause.RepeatedMember ≡ None = sym (ap (λ b. if b then Some BuildCause.RepeatedMember else name_fault known name) e) ∙ h in cc)
    by false e = sym (ap (λ b. if b then Some BuildCause.RepeatedMember else name_fault known name) e) ∙ h

later : (known : Known) (before : List (List ℕ)) (k : List ℕ) (j : Json) (ms : Members) (name : List ℕ) (v : Json) → member_fault known before k ≡ None → get_member name (member k j ms) ≡ Some v
    → ((w : Json) → get_member name ms ≡ Some w → name_fault known name ≡ None) → (o : Option Json) → get_member name ms ≡ o → (b : Bool) → bytes_eq k name ≡ b → name_fault known name ≡ None
later known before k j ms name v here e rest (Some w) f b g = rest w f
later known before k j ms name v here e rest None f true g = subst (λ x. name_fault known x ≡ None) ((bytes_eq-Decides k name).0 g) (alone known before k here)
later known before k j ms name v here e rest None f false g = absurd (let q : None ≡ Some v = sym (ap (λ o. later_or o (cond (bytes_eq k name) (Some j) None)) f ∙ ap (λ b. cond b (Some j) None) g) ∙ e in cc)

-- a member that is found is known by its name
pub found_known : (known : Known) (before : List (List ℕ)) (ms : Members) (name : List ℕ) (v : Json) → first_fault known before ms ≡ None → get_member name ms ≡ Some v → name_fault known name ≡ None
found_known known before no_members name v h e = absurd cc
found_known known before (member k j ms) name v h e =
    let parts = no_fault_cases known before k j ms h in
    later known before k j ms name v parts.0 e (λ w f. found_known known (before ++ k ∷ []) ms name w parts.1 f) (get_member name ms) refl (bytes_eq k name) refl

-- the only member is known by its name
pub one_known : (known : Known) (name : List ℕ) (j : Json) → first_fault known [] (member name j no_members) ≡ None → name_fault known name ≡ None
one_known known name j h = alone known [] name (no_fault_cases known [] name j no_members h).0

presence_carried : (presence : Presence) → presence_fault presence ≡ None → IsCarried presence
presence_carried Presence.Must h = tt
presence_carried Presence.May h = tt
presence_carried (Presence.Default d) h = tt
presence_carried Presence.LeftOut h = absurd cc

-- the row of a member that is found isn't left out
pub found_carried : (node : NodeId) (i : ℕ) (row : Row) (j v : Json) → slice_get (rows_of node) i ≡ Some row → IsObjectOf (of_type node) j → get (row_name node i) j ≡ Some v → IsCarried row.presence
found_carried node i row (object ms) v at named e =
    let known : name_fault (of_type node) (row_name node i) ≡ None = found_known (of_type node) [] ms (row_name node i) v named e in
    presence_carried row.presence (ap row_fault (sym at) ∙ sym (ap (place_fault node) (row_place node i row at)) ∙ known)
found_carried node i row _ v at named e = absurd named

-- the row of a known name
pub known_row : (node : NodeId) (name : List ℕ) → name_fault (of_type node) name ≡ None → (i : ℕ) × (row : Row) × (place_of node name ≡ Some i) × (slice_get (rows_of node) i ≡ Some row) × IsCarried row.presence × (row_name node i ≡ name)
known_row node name h = by (place_of node name) refl
  where
    by : (o : Option ℕ) → place_of node name ≡ o → (i : ℕ) × (row : Row) × (place_of node name ≡ Some i) × (slice_get (rows_of node) i ≡ Some row) × IsCarried row.presence × (row_name node i ≡ name)
    by None e = absurd (let q : Some BuildCause.UnknownMember ≡ None = sym (ap (place_fault node) e) ∙ h in cc)
    by (Some i) e = at (slice_get (rows_of node) i) refl
      where
        here : row_fault (slice_get (rows_of node) i) ≡ None
        here = sym (ap (place_fault node) e) ∙ h

        at : (r : Option Row) → slice_get (rows_of node) i ≡ r → (i : ℕ) × (row : Row) × (place_of node name ≡ Some i) × (slice_get (rows_of node) i ≡ Some row) × IsCarried row.presence × (row_name node i ≡ name)
        at None f = absurd (let q : Some BuildCause.UnknownMember ≡ None = sym (ap row_fault f) ∙ here in cc)
        at (Some row) f = (i, row, e, f, presence_carried row.presence (sym (ap row_fault f) ∙ here), place_name node name i e)

-- an object of one member has one
pub one_long : {A : Type 0} (ms : List (Bor (List ℕ) × Value A)) (name : List ℕ) (inner : Json) → members_view ms ≡ member name inner no_members → length ms ≡ 1
one_long [] name inner e = absurd cc
one_long (m ∷ []) name inner e = refl
one_long (m ∷ n ∷ ms) name inner e = absurd cc

-- the row of the only member, where no member has a fault
pub chosen : (node : NodeId) (ms : Members) (name : List ℕ) (v : Json) → first_fault (of_type node) [] ms ≡ None → ms ≡ member name v no_members
    → (i : ℕ) × (row : Row) × (place_of node name ≡ Some i) × (slice_get (rows_of node) i ≡ Some row) × IsCarried row.presence × (row_name node i ≡ name)
chosen node ms name v none is = known_row node name (one_known (of_type node) name v (subst (λ x. first_fault (of_type node) [] x ≡ None) is none))
