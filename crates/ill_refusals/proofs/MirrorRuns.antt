-- The machine of the module profile follows that of profile 2, up to the first component of a type whose tags are explicit in the module
-- alone.
use Rattle.std.proofs.Common.{◌≡◌, ◌⊎◌, ℕ, zero, suc, ◌+◌, ◌-◌, ◌≤◌, Bool, true, false, ◌&&◌, ◌||◌, List, [], ◌∷◌, ◌++◌, length, take, drop, Option, Some, None, IsTrue, refl, sym, ap, ap₂, subst, ◌∙◌, inl, inr, if◌then◌else◌, slice_get, append-nil, arith}
use Rattle.std.specs.Prelude.{nat_eq, nat_lt, nat_le, unwrap_or}
use Rattle.std.specs.List.{list_all}
use Rattle.std.proofs.lemmas.List.{take-append-drop}
use Rattle.ber_tree.specs.Identifier.{Tag, identifier, HasIdentifier}
use Rattle.ber_tree.specs.Octets.{are_octets}
use Rattle.ber_tree.specs.Tree.{Tree, Trees, primitive, constructed, none, tag_of}
use Rattle.ber_core.proofs.ReadOctets.{identifier_read, read_is_identifier, octets_left, octets_right, take-all, drop-all}
use Rattle.ber_core.specs.Reading.{IdentifierRead, identified, part_identifier, no_identifier, read_identifier, LengthRead, definite, indefinite, part_length, no_length, read_length}
use Rattle.ber_leaf.specs.declared.fault.LeafFault.{LeafFault}
use Rattle.ber_leaf.specs.Leaf.{Leaf, boolean, integer, enumerated, general_string, visible_string, printable_string, iso_date, iso_time, null_type, object_identifier, octet_string, bit_string, object_descriptor, content_fault}
use Rattle.ber_leaf.specs.Profile.{Profile, profile_two, profile_three}
use Rattle.ber_leaf.specs.Segments.{segments_content}
use Rattle.ill_tables.specs.declared.part.PartId.{PartId}
use Rattle.ill_schema.specs.declared.refusal.Cause.{Cause}
use Rattle.ill_schema.specs.Apdu.{Apdu, Encodes}
use Rattle.ill_schema.specs.Lift.{is_plain_apdu}
use Rattle.ill_schema.proofs.BothProfiles.{both_encode}
use Rattle.ill_refusals.specs.Element.{Element, leaf, sequence, list, wrapper, loose_wrapper, segment, foreign, left_out}
use Rattle.ill_refusals.specs.Next.{Next, Due, element_of, next_of, due, missing, opening, next_after, is_last, AreWhole}
use Rattle.ill_refusals.specs.Fault.{Fault, fault, fault_at, ends_at, is_indefinite, past_end, cut_fault, element_fault, string_fault, is_deep}
use Rattle.ill_refusals.specs.code.Judge.{Judgement, faulty, closes, opens, reads, or_faulty, judge_end, judge_content, judge_size, judge_length, judge_form, judge_tag, judge_element, judge_mark, judge_octets, judge}
use Rattle.ill_refusals.specs.code.Step.{Step, refused, goes, whole, stuck, snoc, with_tree, opened, step_after}
use Rattle.ill_refusals.specs.Outcome.{OnlyRefuses}
use Rattle.ill_refusals.specs.Place.{Open, next_in, innermost_end, bound, allows, message, IsOpen, IsPlace, IsDue}
use Rattle.ill_refusals.specs.Retagged.{holds_retagged, IsRetaggedAt, IsFirstRetagged}
use Rattle.ill_refusals.proofs.WholeElements.{IsProper}
use Rattle.ill_refusals.proofs.OpenElements.{IsProperNext, due_proper}
use Rattle.ill_refusals.proofs.PlaceRuns.{place_proper}
use Rattle.ill_refusals.proofs.TreeRuns.{next-snoc}
use Rattle.ill_refusals.proofs.Machine.{after}
use Rattle.ill_refusals.proofs.DueSteps.{IsMessage, Placed, step_placed}
use Rattle.ill_refusals.proofs.FirstFault.{has_fault}
use Rattle.ill_refusals.proofs.Judgements.{Judged, judged}
use Rattle.ill_refusals.proofs.PlaceOrder.{final_stays, last_place, Later, steps_later}
use Rattle.ill_refusals.proofs.OneOutcome.{message_encodes, encodes_run, due_run}
use Rattle.ill_refusals.proofs.Continuations.{due_at, refused_at}
use Rattle.ill_refusals.proofs.Mirrors.{mirror, is_left_out, Mirrored, IsDueToo, next_due, none_missing, same_last, first_tag, IsRetaggedDue, fresh_due, fresh_missing, fresh_last, opened_due, opened_missing, opening_mirrored, inner_beside}

-- ---- places

abbrev mirror_open : Open → Open
mirror_open o = record { element = mirror o.element; tag = o.tag; start = o.start; end = o.end; trees = o.trees }

abbrev mirror_path : List Open → List Open
mirror_path [] = []
mirror_path (o ∷ path) = mirror_open o ∷ mirror_path path

-- in each open element the twins may come next; or it holds a type whose tags are explicit in the module alone, and nothing of it is there yet
abbrev PathMirrored : List Open → Type 0
PathMirrored [] = Unit {0}
PathMirrored (o ∷ path) =
    (Mirrored (next_in profile_two (o ∷ path)) (next_in profile_three (mirror_path (o ∷ path))) ⊎ (IsTrue (holds_retagged o.element) × (o.trees ≡ none)))
    × PathMirrored path

abbrev IsFreshPath : List Open → Type 0
IsFreshPath path = (o : Open) × (outer : List Open) × (path ≡ o ∷ outer) × IsTrue (holds_retagged o.element) × (o.trees ≡ none)

message_mirrored : Mirrored (next_in profile_two []) (next_in profile_three [])
message_mirrored = (message profile_three ∷ [], refl, inner_beside (message profile_two) refl refl)

-- where nothing is there yet, what comes next is what may come as the element opens
fresh_next : (p : Profile) (o : Open) (path : List Open) → o.trees ≡ none → next_in p (o ∷ path) ≡ opening p o.element
fresh_next p o path e = ap (next_after p (opening p o.element)) e

path_due : (path : List Open) (t : Tag) (d : Due) → PathMirrored path → IsProperNext profile_two (next_in profile_two path) → due profile_two t (next_in profile_two path) ≡ Some d
    → IsDueToo t (next_in profile_three (mirror_path path)) d ⊎ (IsFreshPath path × IsRetaggedDue t (next_in profile_three (mirror_path path)) d)
path_due [] t d k ok h = inl (next_due t (next_in profile_two []) (next_in profile_three []) d ok message_mirrored h)
path_due (o ∷ path) t d k ok h = elim k.0 [
  | inl m ↦ inl (next_due t (next_in profile_two (o ∷ path)) (next_in profile_three (mirror_path (o ∷ path))) d ok m h)
  | inr f ↦
      let e2 = fresh_next profile_two o path f.1 in
      let e3 = fresh_next profile_three (mirror_open o) (mirror_path path) f.1 in
      elim (fresh_due o.element t d f.0 (subst (IsProperNext profile_two) e2 ok) (ap (due profile_two t) (sym e2) ∙ h)) [
        | inl x ↦ inl (subst (λ z. IsDueToo t z d) (sym e3) x)
        | inr x ↦ inr ((o, path, refl, f.0, f.1), subst (λ z. IsRetaggedDue t z d) (sym e3) x)
      ]
]

path_missing : (o : Open) (path : List Open) → PathMirrored (o ∷ path) → IsProperNext profile_two (next_in profile_two (o ∷ path)) → missing profile_two (next_in profile_two (o ∷ path)) ≡ None
    → missing profile_three (next_in profile_three (mirror_path (o ∷ path))) ≡ None
path_missing o path k ok h = elim k.0 [
  | inl m ↦ none_missing (next_in profile_two (o ∷ path)) (next_in profile_three (mirror_path (o ∷ path))) ok m h
  | inr f ↦ absurd (fresh_missing o.element f.0 (ap (missing profile_two) (sym (fresh_next profile_two o path f.1)) ∙ h))
]

path_last : (path : List Open) → PathMirrored path → is_last (next_in profile_three (mirror_path path)) ≡ is_last (next_in profile_two path)
path_last [] k = refl
path_last (o ∷ path) k = elim k.0 [
  | inl m ↦ same_last (next_in profile_two (o ∷ path)) (next_in profile_three (mirror_path (o ∷ path))) m
  | inr f ↦ ap is_last (fresh_next profile_three (mirror_open o) (mirror_path path) f.1) ∙ fresh_last o.element f.0 ∙ ap is_last (sym (fresh_next profile_two o path f.1))
]

path_length : (path : List Open) → length (mirror_path path) ≡ length path
path_length [] = refl
path_length (o ∷ path) = ap suc (path_length path)

same_deep : (path : List Open) → PathMirrored path → is_deep profile_three (mirror_path path) ≡ is_deep profile_two path
same_deep path k = ap₂ (λ (n : ℕ) (b : Bool). nat_le 32 n || b) (path_length path) (path_last path k)

same_ends : (path : List Open) (k : ℕ) → ends_at (mirror_path path) k ≡ ends_at path k
same_ends [] k = refl
same_ends (o ∷ path) k = refl

same_indefinite : (path : List Open) → is_indefinite (mirror_path path) ≡ is_indefinite path
same_indefinite [] = refl
same_indefinite (o ∷ path) = refl

same_innermost : (path : List Open) → innermost_end (mirror_path path) ≡ innermost_end path
same_innermost [] = refl
same_innermost (o ∷ path) = ap (λ x. elim o.end as (λ _. Option ℕ) [ Some e ↦ Some e | None ↦ x ]) (same_innermost path)

same_bound : (path : List Open) → bound profile_three (mirror_path path) ≡ bound profile_two path
same_bound path = ap (λ (x : Option ℕ). unwrap_or x profile_two.limit) (same_innermost path)

-- ---- contents

all_general : (w : List ℕ) → list_all profile_three.general w ≡ true
all_general [] = refl
all_general (a ∷ w) = all_general w

same_content : (l : Leaf) (w : List ℕ) → content_fault profile_two l w ≡ None → content_fault profile_three l w ≡ None
same_content general_string w h = ap (λ (b : Bool). if b then None else Some LeafFault.BadText) (all_general w)
same_content boolean w h = h
same_content integer w h = h
same_content enumerated w h = h
same_content visible_string w h = h
same_content printable_string w h = h
same_content iso_date w h = h
same_content iso_time w h = h
same_content null_type w h = h
same_content object_identifier w h = h
same_content octet_string w h = h
same_content bit_string w h = h
same_content object_descriptor w h = h

same_element : (e : Element) (w : List ℕ) → element_fault profile_two e w ≡ None → element_fault profile_three (mirror e) w ≡ None
same_element (leaf l) w h = same_content l w h
same_element (sequence node) w h = refl
same_element (list node) w h = refl
same_element (wrapper c) w h = refl
same_element (loose_wrapper c) w h = refl
same_element (segment tag) w h = refl
same_element (foreign n) w h = refl
same_element (left_out x) w h = refl

same_string : (e : Element) (ts : Trees) → string_fault profile_two e ts ≡ None → string_fault profile_three (mirror e) ts ≡ None
same_string (leaf l) ts h = same_content l (segments_content l ts) h
same_string (sequence node) ts h = refl
same_string (list node) ts h = refl
same_string (wrapper c) ts h = refl
same_string (loose_wrapper c) ts h = refl
same_string (segment tag) ts h = refl
same_string (foreign n) ts h = refl
same_string (left_out x) ts h = refl

-- ---- what is done at a place

-- after an element with this tag the twins may come next
abbrev Grows : List Open → Tag → Type 0
Grows path tag =
    (d : Due) × (e : Due) × (due profile_two tag (next_in profile_two path) ≡ Some d) × (due profile_three tag (next_in profile_three (mirror_path path)) ≡ Some e) × Mirrored (next_of d) (next_of e)

-- what is done in the module is done in profile 2, unless that has a fault
abbrev Follows : List Open → Judgement → Judgement → Type 0
Follows path (faulty f) j = Unit {0}
Follows path (closes m) j = j ≡ closes m
Follows path (opens tag e h end) j = (j ≡ opens tag (mirror e) h end) × IsProper profile_two e
Follows path (reads tag h content) j = (j ≡ reads tag h content) × Grows path tag

end_follows : (path : List Open) (k m : ℕ) → PathMirrored path → IsProperNext profile_two (next_in profile_two path) → Follows path (judge_end profile_two path k m) (judge_end profile_three (mirror_path path) k m)
end_follows [] k m h ok = refl
end_follows (o ∷ path) k m h ok = go (missing profile_two (next_in profile_two (o ∷ path))) refl (string_fault profile_two o.element o.trees) refl
  where
    go : (x : Option PartId) → missing profile_two (next_in profile_two (o ∷ path)) ≡ x → (c : Option LeafFault) → string_fault profile_two o.element o.trees ≡ c
        → Follows (o ∷ path) (elim x as (λ _. Judgement) [ Some part ↦ faulty (fault (Cause.Missing part) k) | None ↦ or_faulty c o.start (closes m) ]) (judge_end profile_three (mirror_path (o ∷ path)) k m)
    go (Some part) e c f = tt
    go None e (Some c) f = tt
    go None e None f =
        ap (λ x. elim x as (λ _. Judgement) [ Some part ↦ faulty (fault (Cause.Missing part) k) | None ↦ or_faulty (string_fault profile_three (mirror o.element) o.trees) o.start (closes m) ]) (path_missing o path h ok e)
        ∙ ap (λ x. or_faulty x o.start (closes m)) (same_string o.element o.trees f)

content_follows : (path : List Open) (e : Element) (tag : Tag) (k h : ℕ) (cut cut3 : Fault) (n : ℕ) (w : List ℕ) → Grows path tag
    → Follows path (judge_content profile_two e tag k h cut n w) (judge_content profile_three (mirror e) tag k h cut3 n w)
content_follows path e tag k h cut cut3 n w g = go (nat_lt (length w) n) (element_fault profile_two e (take n w)) refl
  where
    go : (b : Bool) (c : Option LeafFault) → element_fault profile_two e (take n w) ≡ c
        → Follows path (if b then faulty cut else or_faulty c k (reads tag h (take n w))) (if b then faulty cut3 else or_faulty (element_fault profile_three (mirror e) (take n w)) k (reads tag h (take n w)))
    go true c f = tt
    go false (Some c) f = tt
    go false None f = (ap (λ x. or_faulty x k (reads tag h (take n w))) (same_element e (take n w) f), g)

size_follows : (path : List Open) (e : Element) (tag : Tag) (form : Bool) (k h : ℕ) (cut cut3 : Fault) (n : ℕ) (w : List ℕ) → IsProper profile_two e → Grows path tag
    → Follows path (judge_size profile_two path e tag form k h cut n w) (judge_size profile_three (mirror_path path) (mirror e) tag form k h cut3 n w)
size_follows path e tag form k h cut cut3 n w ok g =
    subst (λ z. Follows path (judge_size profile_two path e tag form k h cut n w) (if nat_lt z (k + h + n) then faulty (fault (past_end (mirror_path path)) k)
    else elim form as (λ _. Judgement) [ true ↦ opens tag (mirror e) h (Some (k + h + n)) | false ↦ judge_content profile_three (mirror e) tag k h cut3 n w ]))
    (sym (same_bound path)) (go (nat_lt (bound profile_two path) (k + h + n)) form)
  where
    go : (b f : Bool) → Follows path
        (if b then faulty (fault (past_end path) k) else elim f as (λ _. Judgement) [ true ↦ opens tag e h (Some (k + h + n)) | false ↦ judge_content profile_two e tag k h cut n w ])
        (if b then faulty (fault (past_end (mirror_path path)) k) else elim f as (λ _. Judgement) [ true ↦ opens tag (mirror e) h (Some (k + h + n)) | false ↦ judge_content profile_three (mirror e) tag k h cut3 n w ])
    go true f = tt
    go false true = (refl, ok)
    go false false = content_follows path e tag k h cut cut3 n w g

length_follows : (path : List Open) (e : Element) (tag : Tag) (form : Bool) (k i : ℕ) (cut cut3 : Fault) (w : List ℕ) → IsProper profile_two e → Grows path tag
    → Follows path (judge_length profile_two path e tag form k i cut w) (judge_length profile_three (mirror_path path) (mirror e) tag form k i cut3 w)
length_follows path e tag form k i cut cut3 w ok g = go (read_length form w)
  where
    go : (x : LengthRead) → Follows path
        (elim x as (λ _. Judgement) [
          | part_length ↦ faulty cut
          | no_length ↦ faulty (fault Cause.BadLength k)
          | indefinite rest ↦ opens tag e (i + (length w - length rest)) None
          | definite n rest ↦ judge_size profile_two path e tag form k (i + (length w - length rest)) cut n rest
        ])
        (elim x as (λ _. Judgement) [
          | part_length ↦ faulty cut3
          | no_length ↦ faulty (fault Cause.BadLength k)
          | indefinite rest ↦ opens tag (mirror e) (i + (length w - length rest)) None
          | definite n rest ↦ judge_size profile_three (mirror_path path) (mirror e) tag form k (i + (length w - length rest)) cut3 n rest
        ])
    go part_length = tt
    go no_length = tt
    go (indefinite rest) = (refl, ok)
    go (definite n rest) = size_follows path e tag form k (i + (length w - length rest)) cut cut3 n rest ok g

allowed_follows : (path : List Open) (k : ℕ) (i j : Judgement) (b : Bool) → Follows path i j
    → Follows path (elim b as (λ _. Judgement) [ true ↦ i | false ↦ faulty (fault Cause.WrongForm k) ]) (elim b as (λ _. Judgement) [ true ↦ j | false ↦ faulty (fault Cause.WrongForm k) ])
allowed_follows path k i j true h = h
allowed_follows path k i j false h = tt

form_follows : (path : List Open) (e : Element) (tag : Tag) (form : Bool) (k i : ℕ) (cut cut3 : Fault) (w : List ℕ) → IsProper profile_two e → Grows path tag
    → Follows path (judge_form profile_two path e tag form k i cut w) (judge_form profile_three (mirror_path path) (mirror e) tag form k i cut3 w)
form_follows path (leaf l) tag f k i cut cut3 w ok g = allowed_follows path k _ _ (allows (leaf l) f) (length_follows path (leaf l) tag f k i cut cut3 w ok g)
form_follows path (sequence n) tag f k i cut cut3 w ok g = allowed_follows path k _ _ (allows (sequence n) f) (length_follows path (sequence n) tag f k i cut cut3 w ok g)
form_follows path (list n) tag f k i cut cut3 w ok g = allowed_follows path k _ _ (allows (list n) f) (length_follows path (list n) tag f k i cut cut3 w ok g)
form_follows path (wrapper c) tag f k i cut cut3 w ok g = allowed_follows path k _ _ (allows (wrapper c) f) (length_follows path (wrapper c) tag f k i cut cut3 w ok g)
form_follows path (loose_wrapper c) tag f k i cut cut3 w ok g = allowed_follows path k _ _ (allows (loose_wrapper c) f) (length_follows path (loose_wrapper c) tag f k i cut cut3 w ok g)
form_follows path (segment u) tag f k i cut cut3 w ok g = length_follows path (segment u) tag f k i cut cut3 w ok g
form_follows path (foreign n) tag f k i cut cut3 w ok g = length_follows path (foreign n) tag f k i cut cut3 w ok g
form_follows path (left_out x) tag f k i cut cut3 w ok g = tt

left_follows : (path : List Open) (e : Element) (tag : Tag) (form : Bool) (k i : ℕ) (cut : Fault) (w : List ℕ) (j : Judgement) → IsTrue (is_left_out e) → Follows path (judge_form profile_two path e tag form k i cut w) j
left_follows path (left_out x) tag f k i cut w j h = tt
left_follows path (leaf l) tag f k i cut w j h = absurd cc
left_follows path (sequence n) tag f k i cut w j h = absurd cc
left_follows path (list n) tag f k i cut w j h = absurd cc
left_follows path (wrapper c) tag f k i cut w j h = absurd cc
left_follows path (loose_wrapper c) tag f k i cut w j h = absurd cc
left_follows path (segment u) tag f k i cut w j h = absurd cc
left_follows path (foreign n) tag f k i cut w j h = absurd cc

-- the first component of a type whose tags are explicit in the module alone: a primitive element with tag [0]
abbrev IsStrictTag : List Open → Tag → Bool → ℕ → Judgement → Type 0
IsStrictTag path tag form k j = IsFreshPath path × (tag ≡ first_tag) × (form ≡ false) × (j ≡ faulty (fault Cause.WrongForm k))

abbrev tag_body : List Open → Tag → Bool → ℕ → ℕ → Fault → List ℕ → Option Due → Judgement
tag_body path tag form k i cut w x = elim x as (λ _. Judgement) [
  | None ↦ faulty (fault Cause.UnexpectedTag k)
  | Some d ↦ judge_form profile_three path (element_of d) tag form k i cut w
]

tag_follows : (path : List Open) (tag : Tag) (form : Bool) (k i : ℕ) (cut cut3 : Fault) (w : List ℕ) → PathMirrored path → IsProperNext profile_two (next_in profile_two path)
    → IsStrictTag path tag form k (judge_tag profile_three (mirror_path path) tag form k i cut3 w)
    ⊎ Follows path (judge_tag profile_two path tag form k i cut w) (judge_tag profile_three (mirror_path path) tag form k i cut3 w)
tag_follows path tag form k i cut cut3 w h ok = go (due profile_two tag (next_in profile_two path)) refl
  where
    strict : (d : Due) (f : Bool) → IsFreshPath path → IsRetaggedDue tag (next_in profile_three (mirror_path path)) d
        → IsStrictTag path tag f k (judge_tag profile_three (mirror_path path) tag f k i cut3 w)
        ⊎ Follows path (judge_form profile_two path (element_of d) tag f k i cut w) (judge_tag profile_three (mirror_path path) tag f k i cut3 w)
    strict d true p r = inr (subst (λ z. Follows path (judge_form profile_two path z tag true k i cut w) (judge_tag profile_three (mirror_path path) tag true k i cut3 w)) (sym r.1) tt)
    strict d false p r = inl (
      p,
      r.0,
      refl,
      ap (tag_body (mirror_path path) tag false k i cut3 w) r.2.2 ∙ ap (λ z. judge_form profile_three (mirror_path path) z tag false k i cut3 w) r.2.3,
    )

    go : (x : Option Due) → due profile_two tag (next_in profile_two path) ≡ x
        → IsStrictTag path tag form k (judge_tag profile_three (mirror_path path) tag form k i cut3 w)
        ⊎ Follows path (elim x as (λ _. Judgement) [ None ↦ faulty (fault Cause.UnexpectedTag k) | Some d ↦ judge_form profile_two path (element_of d) tag form k i cut w ])
        (judge_tag profile_three (mirror_path path) tag form k i cut3 w)
    go None e = inr tt
    go (Some d) e = elim (path_due path tag d h ok e) [
      | inl x ↦ elim x [
        | inl l ↦ inr (left_follows path (element_of d) tag form k i cut w _ l)
        | inr m ↦
            let q : judge_tag profile_three (mirror_path path) tag form k i cut3 w ≡ judge_form profile_three (mirror_path path) (mirror (element_of d)) tag form k i cut3 w =
            ap (tag_body (mirror_path path) tag form k i cut3 w) m.1 ∙ ap (λ z. judge_form profile_three (mirror_path path) z tag form k i cut3 w) m.2 in
            inr (subst (λ z. Follows path (judge_form profile_two path (element_of d) tag form k i cut w) z) (sym q)
            (form_follows path (element_of d) tag form k i cut cut3 w ((due_proper profile_two tag (next_in profile_two path) d ok e).0) (d, m.0, e, m.1, m.3)))
      ]
      | inr x ↦ strict d form x.0 x.1
    ]

abbrev IsStrictIn : List Open → ℕ → List ℕ → Judgement → Type 0
IsStrictIn path k w j = IsFreshPath path × ((r : List ℕ) × (read_identifier w ≡ identified first_tag false r)) × (j ≡ faulty (fault Cause.WrongForm k))

element_follows : (path : List Open) (k : ℕ) (cut cut3 : Fault) (w : List ℕ) → PathMirrored path → IsProperNext profile_two (next_in profile_two path)
    → IsStrictIn path k w (judge_element profile_three (mirror_path path) k cut3 w)
    ⊎ Follows path (judge_element profile_two path k cut w) (judge_element profile_three (mirror_path path) k cut3 w)
element_follows path k cut cut3 w h ok =
    subst (λ z. IsStrictIn path k w (body z (read_identifier w)) ⊎ Follows path (judge_element profile_two path k cut w) (body z (read_identifier w))) (sym (same_deep path h))
    (go (read_identifier w) refl (is_deep profile_two path))
  where
    body : Bool → IdentifierRead → Judgement
    body b x = elim x as (λ _. Judgement) [
      | part_identifier ↦ faulty cut3
      | no_identifier ↦ faulty (fault Cause.BadTag k)
      | identified tag form rest ↦
          if b then faulty (fault Cause.TooDeep k)
          else judge_tag profile_three (mirror_path path) tag form k (length w - length rest) cut3 rest
    ]

    go : (x : IdentifierRead) → read_identifier w ≡ x → (b : Bool) → IsStrictIn path k w (body b x)
        ⊎ Follows path (elim x as (λ _. Judgement) [
          | part_identifier ↦ faulty cut
          | no_identifier ↦ faulty (fault Cause.BadTag k)
          | identified tag form rest ↦
              if b then faulty (fault Cause.TooDeep k)
              else judge_tag profile_two path tag form k (length w - length rest) cut rest
        ]) (body b x)
    go part_identifier e b = inr tt
    go no_identifier e b = inr tt
    go (identified tag f r) e true = inr tt
    go (identified tag f r) e false = elim (tag_follows path tag f k (length w - length r) cut cut3 r h ok) [
      | inl x ↦ inl (x.0, (r, e ∙ ap₂ (λ (t : Tag) (c : Bool). identified t c r) x.1 x.2), x.3)
      | inr x ↦ inr x
    ]

mark_follows : (path : List Open) (k : ℕ) (cut cut3 : Fault) (w : List ℕ) → PathMirrored path → IsProperNext profile_two (next_in profile_two path)
    → Follows path (judge_mark profile_two path k cut w) (judge_mark profile_three (mirror_path path) k cut3 w)
mark_follows path k cut cut3 [] h ok = tt
mark_follows path k cut cut3 (a ∷ w) h ok = go (nat_eq a 0)
  where
    go : (b : Bool) → Follows path
        (elim b as (λ _. Judgement) [ true ↦ judge_end profile_two path k 2 | false ↦ faulty (fault Cause.BadEnd k) ])
        (elim b as (λ _. Judgement) [ true ↦ judge_end profile_three (mirror_path path) k 2 | false ↦ faulty (fault Cause.BadEnd k) ])
    go true = end_follows path k 2 h ok
    go false = tt

octets_follow : (path : List Open) (k : ℕ) (cut cut3 : Fault) (w : List ℕ) → PathMirrored path → IsProperNext profile_two (next_in profile_two path)
    → IsStrictIn path k w (judge_octets profile_three (mirror_path path) k cut3 w)
    ⊎ Follows path (judge_octets profile_two path k cut w) (judge_octets profile_three (mirror_path path) k cut3 w)
octets_follow path k cut cut3 [] h ok = inr tt
octets_follow path k cut cut3 (a ∷ w) h ok =
    subst (λ z. IsStrictIn path k (a ∷ w) (body (z && nat_eq a 0)) ⊎ Follows path (judge_octets profile_two path k cut (a ∷ w)) (body (z && nat_eq a 0))) (sym (same_indefinite path))
    (go (is_indefinite path && nat_eq a 0))
  where
    body : Bool → Judgement
    body b = elim b as (λ _. Judgement) [ true ↦ judge_mark profile_three (mirror_path path) k cut3 w | false ↦ judge_element profile_three (mirror_path path) k cut3 (a ∷ w) ]

    go : (b : Bool) → IsStrictIn path k (a ∷ w) (body b)
        ⊎ Follows path (elim b as (λ _. Judgement) [ true ↦ judge_mark profile_two path k cut w | false ↦ judge_element profile_two path k cut (a ∷ w) ]) (body b)
    go true = inr (mark_follows path k cut cut3 w h ok)
    go false = element_follows path k cut cut3 (a ∷ w) h ok

-- at a place the module does what profile 2 does, or refuses the tag
pub judge_follows : (path : List Open) (k : ℕ) (rest : List ℕ) → PathMirrored path → IsProperNext profile_two (next_in profile_two path)
    → IsStrictIn path k (take (bound profile_two path - k) rest) (judge profile_three (mirror_path path) k rest)
    ⊎ Follows path (judge profile_two path k rest) (judge profile_three (mirror_path path) k rest)
judge_follows path k rest h ok =
    subst (λ z. Result (body z (bound profile_three (mirror_path path)))) (sym (same_ends path k))
    (subst (λ z. Result (body (ends_at path k) z)) (sym (same_bound path)) (go (ends_at path k)))
  where
    cut3 : Fault
    cut3 = cut_fault profile_three (mirror_path path) k rest

    body : Bool → ℕ → Judgement
    body b n = elim b as (λ _. Judgement) [ true ↦ judge_end profile_three (mirror_path path) k 0 | false ↦ judge_octets profile_three (mirror_path path) k cut3 (take (n - k) rest) ]

    Result : Judgement → Type 0
    Result j = IsStrictIn path k (take (bound profile_two path - k) rest) j ⊎ Follows path (judge profile_two path k rest) j

    go : (b : Bool) → IsStrictIn path k (take (bound profile_two path - k) rest) (body b (bound profile_two path))
        ⊎ Follows path (elim b as (λ _. Judgement) [
          | true ↦ judge_end profile_two path k 0
          | false ↦ judge_octets profile_two path k (cut_fault profile_two path k rest) (take (bound profile_two path - k) rest)
        ]) (body b (bound profile_two path))
    go true = inr (end_follows path k 0 h ok)
    go false = octets_follow path k (cut_fault profile_two path k rest) cut3 (take (bound profile_two path - k) rest) h ok

-- ---- both machines

-- the trees of the innermost element are whole
abbrev TopWhole : Profile → List Open → Type 0
TopWhole p [] = Unit {0}
TopWhole p (o ∷ path) = AreWhole p (opening p o.element) o.trees

top_whole : (p : Profile) (path : List Open) (u : List ℕ) → IsPlace p u path → TopWhole p path
top_whole p [] u h = tt
top_whole p (o ∷ path) u h = h.4.whole

-- the module refuses such a component, and nothing else
record IsStrictPlace (s : List ℕ) (k : ℕ) : Type 0 where
  retagged : IsRetaggedAt s k
  path : List Open
  is_due : IsDue profile_three s k path
  has_fault : fault_at profile_three path k (drop k s) ≡ Some (fault Cause.WrongForm k)
  only : OnlyRefuses profile_three s (fault Cause.WrongForm k)

abbrev Before : ℕ → Step → Type 0
Before k (goes path l rest) = k ≤ l
Before k (whole T n) = Unit {0}
Before k (refused f) = Unit {0}
Before k stuck = Unit {0}

-- the module is where profile 2 is
abbrev Same : List ℕ → Step → Type 0
Same s (goes path k rest) = PathMirrored path × Placed profile_three s (goes (mirror_path path) k rest)
Same s (whole T n) = IsMessage profile_three s T n
Same s (refused f) = Unit {0}
Same s stuck = Unit {0}

-- or has refused such a component before
abbrev Ends : List ℕ → Step → Type 0
Ends s st = ((k : ℕ) × IsStrictPlace s k × Before k st) ⊎ Same s st

abbrev Goes : List ℕ → ℕ → Step → Type 0
Goes s m st = (path : List Open) (k : ℕ) (rest : List ℕ) → PathMirrored path → Placed profile_two s (goes path k rest) → Placed profile_three s (goes (mirror_path path) k rest)
    → after profile_two m (goes path k rest) ≡ st → Ends s st

-- a tree is appended, or is the message
with_ends : (s : List ℕ) (m : ℕ) (st : Step) → Goes s m st → (path : List Open) (U : Tree) (k : ℕ) (rest : List ℕ) → PathMirrored path → Grows path (tag_of U)
    → TopWhole profile_two path → TopWhole profile_three (mirror_path path) → Placed profile_two s (with_tree path U k rest) → Placed profile_three s (with_tree (mirror_path path) U k rest)
    → after profile_two m (with_tree path U k rest) ≡ st → Ends s st
with_ends s m st go [] U k rest h g a b x y e =
    let q : whole U k ≡ st = sym (final_stays profile_two m (whole U k) tt) ∙ e in
    inr (subst (Same s) q y)
with_ends s m st go (o ∷ path) U k rest h g a b x y e =
    let o2 : Open = record o { trees = snoc o.trees U } in
    let n2 : next_in profile_two (o2 ∷ path) ≡ next_of g.0 = next-snoc profile_two (opening profile_two o.element) o.trees U g.0 a g.2 in
    let n3 : next_in profile_three (mirror_path (o2 ∷ path)) ≡ next_of g.1 = next-snoc profile_three (opening profile_three (mirror o.element)) o.trees U g.1 b g.3 in
    let k2 : Mirrored (next_in profile_two (o2 ∷ path)) (next_in profile_three (mirror_path (o2 ∷ path))) =
    subst (λ z. Mirrored z (next_in profile_three (mirror_path (o2 ∷ path)))) (sym n2) (subst (λ z. Mirrored (next_of g.0) z) (sym n3) g.4) in
    go (o2 ∷ path) k rest (inl k2, h.1) x y e

-- after an element that was open the twins may come next
closed_grows : (o : Open) (outer : List Open) (before header contents : List ℕ) → PathMirrored outer → IsPlace profile_two before outer → IsOpen profile_two outer o before header contents → Grows outer o.tag
closed_grows o outer before header contents h pl i =
    let d = i.is_due.0 in
    elim (path_due outer o.tag d h (place_proper profile_two outer before pl) i.is_due.1) [
      | inl x ↦ elim x [
        | inl l ↦ absurd (no_left o.element (subst (λ z. IsTrue (is_left_out z)) i.is_due.2 l) i.allowed)
        | inr m ↦ (d, m.0, i.is_due.1, m.1, m.3)
      ]
      | inr x ↦ absurd (let q : IsTrue (allows (leaf enumerated) true) = subst (λ z. IsTrue (allows z true)) (sym i.is_due.2 ∙ x.1.1) i.allowed in cc)
    ]
  where
    no_left : (e : Element) → IsTrue (is_left_out e) → IsTrue (allows e true) → ⊥
    no_left (left_out x) l a = cc
    no_left (leaf l) h a = cc
    no_left (sequence n) l a = cc
    no_left (list n) l a = cc
    no_left (wrapper c) l a = cc
    no_left (loose_wrapper c) l a = cc
    no_left (segment u) l a = cc
    no_left (foreign n) l a = cc

opened_mirrored : (e : Element) (tag : Tag) (k : ℕ) (end : Option ℕ) (path : List Open) → IsProper profile_two e → PathMirrored path → PathMirrored (opened e tag k end ∷ path)
opened_mirrored e tag k end path ok h = elim (opening_mirrored e ok) [
  | inl f ↦ (inr (f, refl), h)
  | inr m ↦ (inl m, h)
]

follow : (s : List ℕ) (m : ℕ) (st : Step) → IsTrue (are_octets s) → Goes s m st → (path : List Open) (k : ℕ) (rest : List ℕ) → PathMirrored path
    → Placed profile_two s (goes path k rest) → Placed profile_three s (goes (mirror_path path) k rest) → (i j : Judgement) → judge profile_two path k rest ≡ i → judge profile_three (mirror_path path) k rest ≡ j
    → Follows path i j → after profile_two m (step_after i path k rest) ≡ st → Ends s st
follow s m st ok go path k rest h x y i j e f g r = at i j g r
    (subst (λ z. Placed profile_two s (step_after z path k rest)) e (step_placed profile_two s path k rest ok x))
    (subst (λ z. Placed profile_three s (step_after z (mirror_path path) k rest)) f (step_placed profile_three s (mirror_path path) k rest ok y))
  where
    closed : (o : Open) (outer : List Open) (c : ℕ) → PathMirrored (o ∷ outer) → Placed profile_two s (goes (o ∷ outer) k rest) → Placed profile_three s (goes (mirror_path (o ∷ outer)) k rest)
        → Placed profile_two s (step_after (closes c) (o ∷ outer) k rest) → Placed profile_three s (step_after (closes c) (mirror_path (o ∷ outer)) k rest)
        → after profile_two m (step_after (closes c) (o ∷ outer) k rest) ≡ st → Ends s st
    closed o outer c h x y a b r =
        with_ends s m st go outer (constructed o.tag o.trees) (k + c) (drop c rest) h.1 (closed_grows o outer x.3.0 x.3.1 x.3.2 h.1 x.3.3 x.3.4)
        (top_whole profile_two outer x.3.0 x.3.3) (top_whole profile_three (mirror_path outer) y.3.0 y.3.3) a b r

    close_all : (path : List Open) (c : ℕ) → PathMirrored path → Placed profile_two s (goes path k rest) → Placed profile_three s (goes (mirror_path path) k rest)
        → Placed profile_two s (step_after (closes c) path k rest) → Placed profile_three s (step_after (closes c) (mirror_path path) k rest)
        → after profile_two m (step_after (closes c) path k rest) ≡ st → Ends s st
    close_all [] c h x y a b r = absurd a
    close_all (o ∷ outer) c h x y a b r = closed o outer c h x y a b r

    at : (i j : Judgement) → Follows path i j → after profile_two m (step_after i path k rest) ≡ st → Placed profile_two s (step_after i path k rest)
        → Placed profile_three s (step_after j (mirror_path path) k rest) → Ends s st
    at (faulty f) j g r a b = let q : refused f ≡ st = sym (final_stays profile_two m (refused f) tt) ∙ r in inr (subst (Same s) q tt)
    at (closes c) j g r a b = close_all path c h x y a (subst (λ z. Placed profile_three s (step_after z (mirror_path path) k rest)) g b) r
    at (opens tag e size end) j g r a b =
        go (opened e tag k end ∷ path) (k + size) (drop size rest) (opened_mirrored e tag k end path g.1 h) a (subst (λ z. Placed profile_three s (step_after z (mirror_path path) k rest)) g.0 b) r
    at (reads tag size content) j g r a b =
        with_ends s m st go path (primitive tag content) (k + size + length content) (drop (size + length content) rest) h g.1
        (top_whole profile_two path x.0 x.3) (top_whole profile_three (mirror_path path) y.0 y.3) a (subst (λ z. Placed profile_three s (step_after z (mirror_path path) k rest)) g.0 b) r

-- ---- the place where the tag is refused

first_is : (m a : ℕ) (r rest : List ℕ) → take m rest ≡ a ∷ r → slice_get rest 0 ≡ Some a
first_is zero a r rest e = absurd cc
first_is (suc m) a r [] e = absurd cc
first_is (suc m) a r (b ∷ rest) e = let q : b ≡ a = cc in ap Some q

get_after : (u rest : List ℕ) → slice_get (u ++ rest) (length u) ≡ slice_get rest 0
get_after [] rest = refl
get_after (a ∷ u) rest = get_after u rest

placed_get : (p : Profile) (s : List ℕ) (path : List Open) (k : ℕ) (rest : List ℕ) → Placed p s (goes path k rest) → slice_get s k ≡ slice_get rest 0
placed_get p s path k rest h = ap₂ (λ (z : List ℕ) (n : ℕ). slice_get z n) h.1 h.2 ∙ get_after h.0 rest

placed_due : (p : Profile) (s : List ℕ) (path : List Open) (k : ℕ) (rest : List ℕ) → Placed p s (goes path k rest) → IsDue p s k path
placed_due p s path k rest h =
    subst (λ z. IsDue p z k path) (sym h.1) (subst (λ n. IsDue p (h.0 ++ rest) n path) (sym h.2) (due_at p path h.0 rest h.3))

placed_rest : (p : Profile) (s : List ℕ) (path : List Open) (k : ℕ) (rest : List ℕ) → Placed p s (goes path k rest) → drop k s ≡ rest
placed_rest p s path k rest h = ap₂ (λ (n : ℕ) (z : List ℕ). drop n z) h.2 h.1 ∙ drop-all h.0 rest

placed_octets : (p : Profile) (s : List ℕ) (path : List Open) (k : ℕ) (rest : List ℕ) → IsTrue (are_octets s) → Placed p s (goes path k rest) → IsTrue (are_octets rest)
placed_octets p s path k rest ok h = octets_right h.0 rest (subst (λ z. IsTrue (are_octets z)) h.1 ok)

placed_fault : (p : Profile) (s : List ℕ) (path : List Open) (k : ℕ) (rest : List ℕ) (f : Fault) → Placed p s (goes path k rest) → judge p path k rest ≡ faulty f → fault_at p path k (drop k s) ≡ Some f
placed_fault p s path k rest f h e = has_fault p path k (drop k s) f (ap (judge p path k) (placed_rest p s path k rest h) ∙ e)

strict_place : (s : List ℕ) (path : List Open) (k : ℕ) (rest : List ℕ) → IsTrue (are_octets s) → Placed profile_two s (goes path k rest) → Placed profile_three s (goes (mirror_path path) k rest)
    → IsStrictIn path k (take (bound profile_two path - k) rest) (judge profile_three (mirror_path path) k rest) → IsStrictPlace s k
strict_place s path k rest ok x y h =
    let u = y.0 in
    let m = bound profile_two path - k in
    let os = placed_octets profile_three s (mirror_path path) k rest ok y in
    let first : IsTrue (are_octets (take m rest)) = octets_left (take m rest) (drop m rest) (subst (λ z. IsTrue (are_octets z)) (sym (take-append-drop m rest)) os) in
    let read : take m rest ≡ 128 ∷ h.1.0 = (read_is_identifier (take m rest) first_tag false h.1.0 first h.1.1).1 in
    let octet : slice_get s k ≡ Some 128 = placed_get profile_two s path k rest x ∙ first_is m 128 h.1.0 rest read in
    let due : IsDue profile_two s k (h.0.0 ∷ h.0.1) = subst (λ z. IsDue profile_two s k z) h.0.2 (placed_due profile_two s path k rest x) in
    record {
      retagged = (h.0.0, h.0.1, due, h.0.3, h.0.4, octet);
      path = mirror_path path;
      is_due = placed_due profile_three s (mirror_path path) k rest y;
      has_fault = placed_fault profile_three s (mirror_path path) k rest (fault Cause.WrongForm k) y h.2;
      only = subst (λ z. OnlyRefuses profile_three z (fault Cause.WrongForm k)) (sym y.1)
          (refused_at profile_three (mirror_path path) u rest (fault Cause.WrongForm k) y.3 (ap (λ i. judge profile_three (mirror_path path) i rest) (sym y.2) ∙ h.2));
    }

later_before : (path : List Open) (k : ℕ) (st : Step) → Later path k st → Before k st
later_before path k (goes a l rest) (inl h) = omega arith
later_before path k (goes a l rest) (inr h) = let e = h.0 in omega arith
later_before path k (whole T n) h = tt
later_before path k (refused f) h = tt
later_before path k stuck h = tt

run : (s : List ℕ) (m : ℕ) (st : Step) → IsTrue (are_octets s) → Goes s m st
run s zero st ok path k rest h x y e = inr (subst (Same s) e (h, y))
run s (suc m) st ok path k rest h x y e = elim (judge_follows path k rest h (place_proper profile_two path x.0 x.3)) [
  | inl a ↦ inl (k, strict_place s path k rest ok x y a, subst (Before k) e (later_before path k _ (steps_later profile_two s m path k rest ok x)))
  | inr g ↦ follow s m st ok (run s m st ok) path k rest h x y (judge profile_two path k rest) (judge profile_three (mirror_path path) k rest) refl refl g e
]

-- ---- the module refuses each such component

first_octet : (t : Tag) (f : Bool) (x w : List ℕ) → HasIdentifier t f → 128 ∷ w ≡ identifier t f ++ x → (t ≡ first_tag) × (f ≡ false)
first_octet t f x w i e =
    let q : identified first_tag false w ≡ identified t f x = ap read_identifier e ∙ identifier_read t f x i in
    (cc, cc)

begins_with : (rest : List ℕ) (a : ℕ) → slice_get rest 0 ≡ Some a → (w : List ℕ) × (rest ≡ a ∷ w)
begins_with [] a e = absurd cc
begins_with (b ∷ w) a e = let q : b ≡ a = cc in (w, ap (λ z. z ∷ w) q)

refuses_there : (s : List ℕ) (o : Open) (outer : List Open) (k : ℕ) (rest : List ℕ) → IsTrue (are_octets s) → IsTrue (holds_retagged o.element) → o.trees ≡ none
    → Placed profile_three s (goes (mirror_path (o ∷ outer)) k rest) → slice_get s k ≡ Some 128 → (f : Fault) × (judge profile_three (mirror_path (o ∷ outer)) k rest ≡ faulty f)
refuses_there s o outer k rest ok fresh empty y octet =
    go (judge profile_three (mirror_path (o ∷ outer)) k rest) (judged profile_three (mirror_path (o ∷ outer)) k rest (placed_octets profile_three s (mirror_path (o ∷ outer)) k rest ok y)) refl
  where
    path : List Open
    path = mirror_path (o ∷ outer)

    begins : (w : List ℕ) × (rest ≡ 128 ∷ w)
    begins = begins_with rest 128 (sym (placed_get profile_three s (mirror_path (o ∷ outer)) k rest y) ∙ octet)

    opening_next : next_in profile_three (mirror_path (o ∷ outer)) ≡ opening profile_three (mirror o.element)
    opening_next = fresh_next profile_three (mirror_open o) (mirror_path outer) empty

    go : (j : Judgement) → Judged profile_three path k rest j → judge profile_three path k rest ≡ j → (f : Fault) × (judge profile_three path k rest ≡ faulty f)
    go (faulty f) r e = (f, e)
    go (closes m) r e =
        let c : missing profile_three (next_in profile_three path) ≡ None = subst (λ z. missing profile_three (next_in profile_three z) ≡ None) (sym r.is_path) r.may_end.complete in
        absurd (opened_missing o.element fresh (ap (missing profile_three) (sym opening_next) ∙ c))
    go (opens tag x h end) r e =
        absurd (let q : true ≡ false = (first_octet tag true (r.octets ++ r.behind) begins.0 r.started.has_identifier (sym begins.1 ∙ r.spelled)).1 in cc)
    go (reads tag h content) r e =
        let t = (first_octet tag false (r.octets ++ (content ++ r.behind)) begins.0 r.started.has_identifier (sym begins.1 ∙ r.spelled)).0 in
        let d : due profile_three first_tag (opening profile_three (mirror o.element)) ≡ Some r.found =
        ap₂ (λ (z : Tag) (n : Next). due profile_three z n) (sym t) (sym opening_next) ∙ r.started.is_due in
        let c = opened_due o.element r.found fresh d in
        absurd (let q : allows (wrapper c.0) false ≡ true = subst (λ z. allows z false ≡ true) c.1 r.started.allowed in cc)

-- so none comes before the one where the module stops
first_place : (s : List ℕ) (k : ℕ) → IsTrue (are_octets s) → IsStrictPlace s k → (l : ℕ) → IsRetaggedAt s l → k ≤ l
first_place s k ok h l at =
    let r = due_run profile_two s (at.0 ∷ at.1) l at.2 in
    elim (run s r.0 (goes (at.0 ∷ at.1) l (drop l s)) ok [] 0 s tt ([], refl, refl, refl) ([], refl, refl, refl) r.1) [
      | inl x ↦
          let e : fault Cause.WrongForm x.0 ≡ fault Cause.WrongForm k = h.only.1 (fault Cause.WrongForm x.0) x.1.only.0 in
          let i : x.0 ≡ k = ap (λ (f : Fault). f.at) e in
          let le = x.2 in
          omega arith
      | inr x ↦
          let path = mirror_path (at.0 ∷ at.1) in
          let f = refuses_there s at.0 at.1 l (drop l s) ok at.3 at.4 x.1 at.5 in
          elim (last_place profile_three s path h.path l k f.0 ok (placed_due profile_three s path l (drop l s) x.1) (placed_fault profile_three s path l (drop l s) f.0 x.1 f.1) h.is_due) [
            | inl a ↦ omega arith
            | inr a ↦ let e = a.0 in omega arith
          ]
    ]

-- what profile 2 reads is refused at the first such component in the module profile, or is plain
pub other_tags : (s : List ℕ) (a : Apdu) → IsTrue (are_octets s) → Encodes profile_two a s → (IsTrue (is_plain_apdu a) → ⊥)
    → (k : ℕ) × IsFirstRetagged s k × OnlyRefuses profile_three s (fault Cause.WrongForm k)
other_tags s a ok h plain =
    let all : take (length s) s ≡ s = ap (take (length s)) (sym (append-nil s)) ∙ take-all s [] in
    let h2 : Encodes profile_two a (take (length s) s) = subst (Encodes profile_two a) (sym all) h in
    let r = encodes_run profile_two s a (length s) (omega arith) h2 in
    elim (run s r.0 (whole h2.tree (length s)) ok [] 0 s tt ([], refl, refl, refl) ([], refl, refl, refl) r.1) [
      | inl x ↦ (x.0, (x.1.retagged, first_place s x.0 ok x.1), x.1.only)
      | inr m ↦
          let e = message_encodes profile_three s h2.tree (length s) m in
          absurd (plain ((both_encode a m.apdu s (take (length s) s) [] [] h e.1 (ap (λ z. z ++ []) (sym all))).0))
    ]
