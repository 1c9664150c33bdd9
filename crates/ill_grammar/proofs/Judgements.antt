-- What the decoder judges at a place, part by part.
use Rattle.ill_schema.specs.Profiles.{profile_of}
use Rattle.ill_tables.specs.declared.profile.Profile.{Profile as Named}
use Rattle.std.proofs.Common.{◌≡◌, ◌⊎◌, inl, inr, nat_eq, get_or, slice_get, ◌&&◌, ◌||◌, ℕ, zero, suc, ◌+◌, ◌-◌, ◌<◌, ◌≤◌, Bool, true, false, List, [], ◌∷◌, ◌++◌, length, take, drop, Option, Some, None, IsTrue, refl, sym, ap, ap₂, subst, ◌∙◌, arith, if◌then◌else◌, length-append, length-drop}
use Rattle.std.specs.Prelude.{nat_le, ◌%◌, min, Result, unwrap_or}
use Rattle.std.proofs.lemmas.List.{take-append-le, drop-append-le}
use Rattle.ber_core.specs.Id.{tag_of_id, form_of_id}
use Rattle.ber_tree.specs.Identifier.{Tag}
use Rattle.ber_tree.specs.Octets.{are_octets}
use Rattle.ber_core.specs.declared.header.Len.TheVariants.{Definite}
use Rattle.ber_core.specs.declared.id.Id.{Id}
use Rattle.ber_leaf.specs.Profile.{profile_two}
use Rattle.ill_tables.specs.declared.part.PartId.{PartId}
use Rattle.ill_schema.specs.declared.refusal.Cause.{Cause}
use Rattle.ill_schema.specs.declared.refusal.Refusal.{Refusal}
use Rattle.ill_grammar.specs.Elements.{element_is, found_is}
use Rattle.ill_grammar.specs.Places.{alternative_of, first_place, node_of, part_of, type_of}
use Rattle.ill_grammar.specs.declared.place.Place.{Place}
use Rattle.ill_grammar.specs.declared.place.Found.{Found as CellFound}
use Rattle.ill_grammar.specs.Due.{BeginsAt, IsComing, IsDueIn, behind, due_as, next_is, read_as, read_due, shape, slot_in}
use Rattle.ill_refusals.specs.Element.{Element}
use Rattle.ill_refusals.specs.Fault.{Fault, fault, string_fault, ends_at, is_indefinite, cut_fault}
use Rattle.ill_refusals.specs.code.Judge.{Judgement, faulty, closes, or_faulty, judge_end, judge_size, judge_length, judge_form, judge_tag, judge_element, judge_mark, judge_octets, judge}
use Rattle.ill_grammar.specs.code.Judging.{IsFormed, judge_identified, unexpected}
use Rattle.ill_grammar.specs.code.Judging.{IsBegin, IsEnd, IsExtent, content_in}
use Rattle.ill_refusals.specs.Next.{Due, due, element_of, is_last, missing}
use Rattle.ill_refusals.specs.Place.{Open, next_in, bound, innermost_end}
use Rattle.ber_core.specs.Reading.{IdentifierRead, identified, part_identifier, no_identifier, read_identifier, read_number, tagged, definite, read_length}
use Rattle.ill_grammar.specs.Standing.{StandsAt, next_at}
use Rattle.ill_grammar.specs.Due.{DueEntry as CodeDue}
use Rattle.ill_grammar.specs.Begun.{Begun}
use Rattle.ber_core.specs.HeaderRead.{IsLengthRead, IsWholeLength}
use Rattle.ill_grammar.specs.declared.due.Next.{Next}
use Rattle.ill_grammar.specs.declared.due.Next.TheVariants.{Rows, Inner, Items, Either, Segments, BitSegments, Root, Foreigns, Nothing}
use Rattle.ill_refusals.specs.Element.{Component, components}
use Rattle.ill_refusals.specs.Next as following
use Rattle.ill_grammar.specs.declared.frames.Frames.{Frames}
use Rattle.ber_core.specs.declared.header_read.LengthRead.{LengthRead}
use Rattle.ber_core.specs.declared.header_read.LengthRead.TheVariants.{Whole}
use Rattle.ill_grammar.specs.declared.judge.Extent.{Extent}
use Rattle.ill_grammar.proofs.DueCells.{begins-at}
use Rattle.ill_grammar.proofs.DueElements.{due_element_is, due_more}
use Rattle.ill_grammar.proofs.OpenFrames.{next_open}
use Rattle.ill_refusals.proofs.Judgements.{form_judged, length_body}
use Rattle.ber_core.proofs.ReadOctets.{octets_right, read_is_length}

abbrev end_body : (p : Named) → Open → List Open → ℕ → ℕ → Option PartId → Judgement
end_body p o path at marks x = elim x as (λ _. Judgement) [
  | Some part ↦ faulty (fault (Cause.Missing part) at)
  | None ↦ or_faulty (string_fault (profile_of p) o.element o.trees) o.start (closes marks)
]

-- the innermost element ends, and a part is missing
pub end_missing : (p : Named) (place : List Open) (at marks : ℕ) (part : PartId) → 0 < length place → missing profile_two (next_in (profile_of p) place) ≡ Some part
    → judge_end (profile_of p) place at marks ≡ faulty (fault (Cause.Missing part) at)
end_missing p [] at marks part h e = absurd (omega (arith, h))
end_missing p (o ∷ path) at marks part h e = ap (end_body p o path at marks) e

-- none is
pub end_complete : (p : Named) (place : List Open) (at marks : ℕ) → 0 < length place → missing profile_two (next_in (profile_of p) place) ≡ None → IsEnd p place marks (judge_end (profile_of p) place at marks)
end_complete p [] at marks h e = absurd (omega (arith, h))
end_complete p (o ∷ path) at marks h e = record { innermost = o; outer = path; is_path = refl; complete = e; is = ap (end_body p o path at marks) e }

abbrev tag_body : (p : Named) → List Open → Tag → Bool → ℕ → ℕ → Fault → List ℕ → Option Due → Judgement
tag_body p place tag f at i cut w x = elim x as (λ _. Judgement) [
  | None ↦ faulty (fault Cause.UnexpectedTag at)
  | Some d ↦ judge_form (profile_of p) place (element_of d) tag f at i cut w
]

abbrev depth_body : (p : Named) → List Open → Tag → Bool → ℕ → ℕ → Fault → List ℕ → Bool → Judgement
depth_body p place tag f at i cut w b = if b then faulty (fault Cause.TooDeep at) else judge_tag (profile_of p) place tag f at i cut w

-- too deep
pub deep_judged : (p : Named) (place : List Open) (tag : Tag) (f : Bool) (at i : ℕ) (cut : Fault) (w : List ℕ) → 32 ≤ length place
    → judge_identified p place tag f at i cut w ≡ faulty (fault Cause.TooDeep at)
deep_judged p place tag f at i cut w h = let q : nat_le 32 (length place) ≡ true = grind (arith, h) in ap (λ b. depth_body p place tag f at i cut w (b || is_last (next_in (profile_of p) place))) q

-- not too deep
shallow_judged : (p : Named) (place : List Open) (tag : Tag) (f : Bool) (at i : ℕ) (cut : Fault) (w : List ℕ) → length place < 32 → is_last (next_in (profile_of p) place) ≡ false
    → judge_identified p place tag f at i cut w ≡ judge_tag (profile_of p) place tag f at i cut w
shallow_judged p place tag f at i cut w h more =
    let few : nat_le 32 (length place) ≡ false = grind (arith, h) in
    ap (depth_body p place tag f at i cut w) (ap₂ (λ a b. a || b) few more)

-- nothing is due with the tag
pub unexpected_judged : (frames : Frames) (place : List Open) (tag : Tag) (f : Bool) (at i : ℕ) (cut : Fault) (w : List ℕ) → StandsAt frames place → length place < 32
    → due profile_two tag (next_is (next_at frames.profile frames.open.items)) ≡ None → judge_identified frames.profile place tag f at i cut w ≡ faulty (fault (unexpected (next_at frames.profile frames.open.items)) at)
unexpected_judged frames place tag f at i cut w h s e =
    let next = next_open frames.profile place _ _ h.1 in go (next_at frames.profile frames.open.items) next e
  where
    few : nat_le 32 (length place) ≡ false
    few = grind (arith, s)

    none_due : (n : Next) → next_is n ≡ next_in (profile_of frames.profile) place → due profile_two tag (next_is n) ≡ None → is_last (next_is n) ≡ false → judge_identified frames.profile place tag f at i cut w ≡ faulty (fault Cause.UnexpectedTag at)
    none_due n next e more =
        shallow_judged frames.profile place tag f at i cut w s (ap is_last (sym next) ∙ more) ∙ ap (tag_body frames.profile place tag f at i cut w) (ap (due profile_two tag) (sym next) ∙ e)

    go : (n : Next) → next_is n ≡ next_in (profile_of frames.profile) place → due profile_two tag (next_is n) ≡ None → judge_identified frames.profile place tag f at i cut w ≡ faulty (fault (unexpected n) at)
    go (Foreigns zero) next e = ap (depth_body frames.profile place tag f at i cut w) (ap₂ (λ a b. a || b) few (ap is_last (sym next)))
    go (Foreigns (suc n)) next e = none_due (Foreigns (suc n)) next e refl
    go (Items node) next e = none_due (Items node) next e (items (components profile_two node))
      where
        items : (cs : List Component) → is_last (elim cs as (λ _. following.Next) [ [] ↦ following.rows [] | c ∷ _ ↦ following.items c ]) ≡ false
        items [] = refl
        items (c ∷ cs) = refl
    go (Rows node k) next e = none_due (Rows node k) next e refl
    go (Inner w) next e = none_due (Inner w) next e refl
    go (Either w) next e = none_due (Either w) next e refl
    go Segments next e = none_due Segments next e refl
    go BitSegments next e = none_due BitSegments next e refl
    go (Root w) next e = none_due (Root w) next e refl
    go Nothing next e = none_due Nothing next e refl

-- what is due with the tag is judged by its form
due_judged : (frames : Frames) (place : List Open) (tag : Tag) (f : Bool) (d : CodeDue) (at i : ℕ) (cut : Fault) (w : List ℕ) → StandsAt frames place → length place < 32
    → IsDueIn tag (next_at frames.profile frames.open.items) d → judge_identified frames.profile place tag f at i cut w ≡ judge_form (profile_of frames.profile) place (found_is d.found) tag f at i cut w
due_judged frames place tag f d at i cut w h s k =
    let e = due_element_is tag (next_at frames.profile frames.open.items) d k in
    shallow_judged frames.profile place tag f at i cut w s (ap is_last (sym (next_open frames.profile place _ _ h.1)) ∙ due_more tag (next_at frames.profile frames.open.items) d k)
    ∙ ap (tag_body frames.profile place tag f at i cut w) (ap (due profile_two tag) (sym (next_open frames.profile place _ _ h.1)) ∙ e.1)
    ∙ ap (λ x. judge_form (profile_of frames.profile) place x tag f at i cut w) e.2

-- what is found is due there, and may have the form or not
pub formed_judged : (frames : Frames) (place : List Open) (at : Place) (id : Id) (f : CellFound) → StandsAt frames place → length place < 32 → shape at ≡ next_at frames.profile frames.open.items → IsComing (tag_of_id id) at f
    → IsFormed f (form_of_id id) None → IsBegin frames place (tag_of_id id) f (form_of_id id)
formed_judged frames place at id f h s e k g = record {
  is_due = subst (λ n. IsDueIn (tag_of_id id) n (read_due f)) e (subst (λ x. IsDueIn (tag_of_id id) (shape at) (due_found f x)) g.0 k.is_due);
  begins = subst (λ x. BeginsAt x (first_place f)) g.0 (begins-at (type_of f) (part_of f) (node_of f) f.opens);
  goes_on = k.after ∙ ap (λ n. behind n (slot_in f)) e;
  allowed = g.1;
  shallow = s;
}
  where
    due_found : CellFound → Begun → CodeDue
    due_found f x = record { slot = slot_in f; alternative = alternative_of f; found = x }

pub misformed_judged : (frames : Frames) (place : List Open) (at : Place) (k : ℕ) (id : Id) (f : CellFound) (cause : Cause) → StandsAt frames place → length place < 32 → shape at ≡ next_at frames.profile frames.open.items
    → IsComing (tag_of_id id) at f → IsFormed f (form_of_id id) (Some cause) → (i : ℕ) (cut : Fault) (w : List ℕ) → judge_identified frames.profile place (tag_of_id id) (form_of_id id) k i cut w ≡ faulty (fault cause k)
misformed_judged frames place at k id f cause h s e c g i cut w =
    due_judged frames place (tag_of_id id) (form_of_id id) (due_as f) k i cut w h s (subst (λ n. IsDueIn (tag_of_id id) n (due_as f)) e c.is_due) ∙ g (profile_of frames.profile) place (tag_of_id id) k i cut w

abbrev pub element_body : (p : Named) → List Open → ℕ → Fault → List ℕ → IdentifierRead → Judgement
element_body p place at cut w x = elim x as (λ _. Judgement) [
  | part_identifier ↦ faulty cut
  | no_identifier ↦ faulty (fault Cause.BadTag at)
  | identified tag f rest ↦ judge_identified p place tag f at (length w - length rest) cut rest
]

-- no octet is there
pub empty_judged : (p : Named) (place : List Open) (at : ℕ) (cut : Fault) (w : List ℕ) → slice_get w 0 ≡ None → judge_octets (profile_of p) place at cut w ≡ faulty cut
empty_judged p place at cut [] e = refl
empty_judged p place at cut (x ∷ w) e = absurd cc

-- an end mark begins
pub mark_judged : (p : Named) (place : List Open) (at : ℕ) (cut : Fault) (w : List ℕ) → slice_get w 0 ≡ Some 0 → is_indefinite place ≡ true → judge_octets (profile_of p) place at cut w ≡ judge_mark (profile_of p) place at cut (drop 1 w)
mark_judged p place at cut [] e i = absurd cc
mark_judged p place at cut (x ∷ w) e i =
    let is : x ≡ 0 = cc in
    ap (λ b. elim b as (λ _. Judgement) [ true ↦ judge_mark (profile_of p) place at cut w | false ↦ judge_element (profile_of p) place at cut (x ∷ w) ]) (ap₂ (λ a b. a && b) i (ap (λ y. nat_eq y 0) is))

-- the octet after the first
second_octet : (w : List ℕ) (y : ℕ) → 1 < length w → ((d : ℕ) → y ≡ get_or w 1 d) → (rest : List ℕ) × (drop 1 w ≡ y ∷ rest)
second_octet (x ∷ (z ∷ w)) y h e = (w, ap (λ t. t ∷ w) (sym (e 0)))
second_octet _ y h e = absurd (omega (arith, h))

-- the end mark is whole
pub mark_ends : (p : Named) (place : List Open) (at : ℕ) (cut : Fault) (w : List ℕ) (y : ℕ) → 1 < length w → ((d : ℕ) → y ≡ get_or w 1 d) → y ≡ 0
    → judge_mark (profile_of p) place at cut (drop 1 w) ≡ judge_end (profile_of p) place at 2
mark_ends p place at cut w y h e z = let s = second_octet w y h e in ap (judge_mark (profile_of p) place at cut) (s.1 ∙ ap (λ x. x ∷ s.0) z)

-- the second octet isn't there
pub mark_part : (p : Named) (place : List Open) (at : ℕ) (cut : Fault) (w : List ℕ) → length w ≤ 1 → judge_mark (profile_of p) place at cut (drop 1 w) ≡ faulty cut
mark_part p place at cut (x ∷ (z ∷ w)) h = absurd (omega (arith, h))
mark_part p place at cut _ h = refl

pub not_zero : (n : ℕ) → (n ≡ 0 → ⊥) → nat_eq n 0 ≡ false
not_zero n h = grind (arith, h)

-- the second octet is another
pub mark_wrong : (p : Named) (place : List Open) (at : ℕ) (cut : Fault) (w : List ℕ) (y : ℕ) → 1 < length w → ((d : ℕ) → y ≡ get_or w 1 d) → nat_eq y 0 ≡ false
    → judge_mark (profile_of p) place at cut (drop 1 w) ≡ faulty (fault Cause.BadEnd at)
mark_wrong p place at cut w y h e n =
    ap (judge_mark (profile_of p) place at cut) (second_octet w y h e).1
    ∙ ap (λ b. elim b as (λ _. Judgement) [ true ↦ judge_end (profile_of p) place at 2 | false ↦ faulty (fault Cause.BadEnd at) ]) n

-- where it is no end mark, an element is judged
pub other_judged : (p : Named) (place : List Open) (at : ℕ) (cut : Fault) (w : List ℕ) (first : ℕ) → slice_get w 0 ≡ Some first → (is_indefinite place ≡ false) ⊎ (nat_eq first 0 ≡ false)
    → judge_octets (profile_of p) place at cut w ≡ judge_element (profile_of p) place at cut w
other_judged p place at cut [] first e other = absurd cc
other_judged p place at cut (x ∷ w) first e other =
    let is : x ≡ first = cc in
    let m : (b : Bool) → b ≡ false → (elim b as (λ _. Judgement) [ true ↦ judge_mark (profile_of p) place at cut w | false ↦ judge_element (profile_of p) place at cut (x ∷ w) ]) ≡ judge_element (profile_of p) place at cut (x ∷ w) =
    λ b h. ap (λ y. elim y as (λ _. Judgement) [ true ↦ judge_mark (profile_of p) place at cut w | false ↦ judge_element (profile_of p) place at cut (x ∷ w) ]) h in
    m (is_indefinite place && nat_eq x 0) (elim other [ inl a ↦ ap (λ y. y && nat_eq x 0) a | inr b ↦ and-false (is_indefinite place) (nat_eq x 0) (ap (λ y. nat_eq y 0) is ∙ b) ])
  where
    and-false : (a b : Bool) → b ≡ false → a && b ≡ false
    and-false true b h = h
    and-false false b h = refl

-- an identifier begins an element
pub identified_judged : (p : Named) (place : List Open) (at : ℕ) (cut : Fault) (w rest : List ℕ) (tag : Tag) (f : Bool) → read_identifier w ≡ identified tag f rest
    → judge_octets (profile_of p) place at cut w ≡ judge_element (profile_of p) place at cut w
identified_judged p place at cut [] rest tag f e = absurd (let q : part_identifier ≡ identified tag f rest = e in cc)
identified_judged p place at cut (x ∷ w) rest tag f e =
    other_judged p place at cut (x ∷ w) x refl (inr (go (nat_eq x 0) (if nat_eq (x % 32) 31 then read_number x w else tagged x (x % 32) w) e))
  where
    go : (b : Bool) (other : IdentifierRead) → (if b then no_identifier else other) ≡ identified tag f rest → b ≡ false
    go true other h = absurd (let q : no_identifier ≡ identified tag f rest = h in cc)
    go false other h = refl

-- an element is judged after its identifier
pub behind_identifier : (p : Named) (place : List Open) (at : ℕ) (cut : Fault) (w front behind : List ℕ) (tag : Tag) (f : Bool) → w ≡ front ++ behind → read_identifier w ≡ identified tag f behind
    → judge_element (profile_of p) place at cut w ≡ judge_identified p place tag f at (length front) cut behind
behind_identifier p place at cut w front behind tag f e r =
    let n : length w - length behind ≡ length front = omega (arith, ap length e, length-append front behind) in
    ap (element_body p place at cut w) r ∙ ap (λ i. judge_identified p place tag f at i cut behind) n

-- an element that may begin there is judged by its length
pub begun_judged : (frames : Frames) (place : List Open) (tag : Tag) (found : CellFound) (f : Bool) (at i : ℕ) (cut : Fault) (w : List ℕ) → StandsAt frames place → IsBegin frames place tag found f
    → judge_identified frames.profile place tag f at i cut w ≡ judge_length (profile_of frames.profile) place (element_is (read_as found)) tag f at i cut w
begun_judged frames place tag found f at i cut w h b =
    due_judged frames place tag f (read_due found) at i cut w h b.shallow b.is_due ∙ form_judged (profile_of frames.profile) place (element_is (read_as found)) tag f at i cut w b.allowed

-- an element of definite length, by the number of octets of its header
pub definite_judged : (p : Named) (place : List Open) (e : Element) (tag : Tag) (f : Bool) (at : ℕ) (cut : Fault) (w front behind : List ℕ) (header n : ℕ) → IsTrue (are_octets behind)
    → w ≡ front ++ behind → header ≤ length w → read_length f behind ≡ definite n (drop header w)
    → judge_length (profile_of p) place e tag f at (length front) cut behind ≡ judge_size (profile_of p) place e tag f at header cut n (drop header w)
definite_judged p place e tag f at cut w front behind header n ok s h r =
    let l = read_is_length f behind n (drop header w) ok r in
    let i : length front + (length behind - length (drop header w)) ≡ header =
    omega (arith, h, ap length s, length-append front behind, length-drop header w, ap length l.2, length-append l.0 (drop header w)) in
    ap (length_body (profile_of p) place e tag f at (length front) cut behind) r ∙ ap (λ x. judge_size (profile_of p) place e tag f at x cut n (drop header w)) i

-- what is judged of a size is judged of the length that was read whole and spells it
pub definite_extent : (p : Named) (found : CellFound) (id : Id) (place : List Open) (at : ℕ) (cut : Fault) (w front behind : List ℕ) (size header : ℕ) (read : LengthRead) (result : Result Extent Refusal)
    → IsTrue (are_octets w) → w ≡ front ++ behind → read ≡ Whole (Definite size) header → IsLengthRead read (read_length (form_of_id id) behind) w
    → ((n : ℕ) → size ≡ min n 4_294_967_295 → IsExtent p found id at w result (judge_size (profile_of p) place (element_is (read_as found)) (tag_of_id id) (form_of_id id) at header cut n (drop header w)))
    → IsExtent p found id at w result (judge_length (profile_of p) place (element_is (read_as found)) (tag_of_id id) (form_of_id id) at (length front) cut behind)
definite_extent p found id place at cut w front behind size header read result ok spelled is h exact =
    let f = form_of_id id in
    let right = octets_right front behind (subst (λ x. IsTrue (are_octets x)) spelled ok) in
    let whole = subst (λ l. IsLengthRead l (read_length f behind) w) is h in
    let length : IsWholeLength (read_length f behind) (Definite size) (drop header w) = whole.2 in
    let same = definite_judged p place (element_is (read_as found)) (tag_of_id id) f at cut w front behind header length.0 right spelled whole.1 length.1 in
    subst (IsExtent p found id at w result) (sym same) (exact length.0 length.2)

-- an element that may begin there, with this identifier, is judged by its length
pub headed_judged : (frames : Frames) (place : List Open) (tag : Tag) (found : CellFound) (f : Bool) (at : ℕ) (cut : Fault) (w front behind : List ℕ) → StandsAt frames place
    → IsBegin frames place tag found f → w ≡ front ++ behind → read_identifier w ≡ identified tag f behind
    → judge_element (profile_of frames.profile) place at cut w ≡ judge_length (profile_of frames.profile) place (element_is (read_as found)) tag f at (length front) cut behind
headed_judged frames place tag found f at cut w front behind h b e r =
    behind_identifier frames.profile place at cut w front behind tag f e r ∙ begun_judged frames place tag found f at (length front) cut behind h b

-- a content in the octets before the bound is the same in all of them
pub content_further : (header size : ℕ) (w y : List ℕ) → header + size ≤ length w → content_in header size w ≡ content_in header size (w ++ y)
content_further header size w y h =
    sym (ap (take size) (drop-append-le header w y (omega (arith, h))) ∙ take-append-le size (drop header w) y (omega (arith, h, length-drop header w)))

abbrev place_body : (p : Named) → List Open → ℕ → List ℕ → Bool → Judgement
place_body p place at rest b = elim b as (λ _. Judgement) [
  | true ↦ judge_end (profile_of p) place at 0
  | false ↦ judge_octets (profile_of p) place at (cut_fault profile_two place at rest) (take (bound profile_two place - at) rest)
]

-- a definite element ends there
pub ended_judged : (p : Named) (place : List Open) (at : ℕ) (rest : List ℕ) → ends_at place at ≡ true → judge (profile_of p) place at rest ≡ judge_end (profile_of p) place at 0
ended_judged p place at rest e = ap (place_body p place at rest) e

-- none ends before the bound
pub ends_at_bound : (place : List Open) (at : ℕ) → (bound profile_two place - at ≡ 0 → ⊥) → ends_at place at ≡ false
ends_at_bound [] at h = refl
ends_at_bound (o ∷ path) at h = go o.end (innermost_end path) h
  where
    go : (e outer : Option ℕ) → (unwrap_or (elim e as (λ _. Option ℕ) [ Some n ↦ Some n | None ↦ outer ]) profile_two.limit - at ≡ 0 → ⊥)
        → (elim e as (λ _. Bool) [ Some n ↦ nat_eq n at | None ↦ false ]) ≡ false
    go (Some n) outer h = let other : n ≡ at → ⊥ = λ e. h (omega (arith, e)) in grind (arith, other)
    go None outer h = refl

-- none does
pub within_judged : (p : Named) (place : List Open) (at : ℕ) (rest window : List ℕ) → ends_at place at ≡ false → window ≡ take (bound profile_two place - at) rest
    → judge (profile_of p) place at rest ≡ judge_octets (profile_of p) place at (cut_fault profile_two place at rest) window
within_judged p place at rest window e s = ap (place_body p place at rest) e ∙ ap (judge_octets (profile_of p) place at (cut_fault profile_two place at rest)) (sym s)
