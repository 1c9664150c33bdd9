-- The first condition that holds at a place gives the fault of what is done there.
use Rattle.std.proofs.Common.{◌≡◌, ℕ, ◌+◌, ◌-◌, Bool, true, false, ◌&&◌, List, [], ◌∷◌, length, take, Option, Some, None, refl, sym, ap, ◌∙◌, if◌then◌else◌}
use Rattle.std.specs.Prelude.{nat_eq, nat_lt}
use Rattle.ber_tree.specs.Identifier.{Tag}
use Rattle.ber_leaf.specs.declared.fault.LeafFault.{LeafFault}
use Rattle.ber_leaf.specs.Profile.{Profile}
use Rattle.ill_schema.specs.declared.refusal.Cause.{Cause}
use Rattle.ill_tables.specs.declared.part.PartId.{PartId}
use Rattle.ill_refusals.specs.Element.{Element, leaf, sequence, list, wrapper, loose_wrapper, segment, foreign, left_out}
use Rattle.ill_refusals.specs.Fault.{Fault, fault, Finding, passes, finds, first_fault, no_octet, innermost_ends, end_finding, second_zero, of_element, after_identifier, bad_form, bad_length, too_long, too_deep, bad_content, at_fault, bad_identifier, end_mark, ends_at, is_indefinite, past_end, cut_fault, element_fault, string_fault, fault_at, is_deep}
use Rattle.ill_refusals.specs.code.Judge.{Judgement, faulty, closes, opens, reads, or_faulty, judge_end, judge_content, judge_size, judge_length, judge_form, judge_tag, judge_element, judge_mark, judge_octets, judge, fault_in}
use Rattle.ill_refusals.specs.Next.{Due, element_of, due, missing}
use Rattle.ill_refusals.specs.Place.{Open, next_in, bound, allows}
use Rattle.ber_core.specs.Reading.{IdentifierRead, identified, part_identifier, no_identifier, read_identifier, LengthRead, definite, indefinite, part_length, no_length, read_length}

-- an end, whatever conditions come after it
end_judged : (p : Profile) (path : List Open) (k marks : ℕ) (more : List Finding) → first_fault (innermost_ends p path k ∷ more) ≡ fault_in (judge_end p path k marks)
end_judged p [] k marks more = refl
end_judged p (o ∷ path) k marks more = go (missing p (next_in p (o ∷ path))) (string_fault p o.element o.trees)
  where
    go : (x : Option PartId) (c : Option LeafFault) → first_fault (end_finding x k c o.start ∷ more) ≡ fault_in (elim x as (λ _. Judgement) [
      | Some part ↦ faulty (fault (Cause.Missing part) k)
      | None ↦ or_faulty c o.start (closes marks)
    ])
    go (Some part) c = refl
    go None (Some c) = refl
    go None None = refl

content_judged : (p : Profile) (e : Element) (tag : Tag) (k h : ℕ) (cut : Fault) (n : ℕ) (w : List ℕ)
    → first_fault ((if nat_lt (length w) n then finds cut else at_fault (element_fault p e (take n w)) k) ∷ []) ≡ fault_in (judge_content p e tag k h cut n w)
content_judged p e tag k h cut n w = go (nat_lt (length w) n) (element_fault p e (take n w))
  where
    go : (b : Bool) (c : Option LeafFault)
        → first_fault ((if b then finds cut else at_fault c k) ∷ []) ≡ fault_in (if b then faulty cut else or_faulty c k (reads tag h (take n w)))
    go true c = refl
    go false (Some c) = refl
    go false None = refl

size_judged : (p : Profile) (path : List Open) (d : Due) (tag : Tag) (form : Bool) (k h : ℕ) (cut : Fault) (n : ℕ) (w : List ℕ)
    → first_fault ((if nat_lt (bound p path) (k + h + n) then finds (fault (past_end path) k) else passes) ∷ bad_content p k cut form (Some d) (definite n w) ∷ [])
    ≡ fault_in (judge_size p path (element_of d) tag form k h cut n w)
size_judged p path d tag form k h cut n w = go (nat_lt (bound p path) (k + h + n)) form
  where
    go : (b : Bool) (form : Bool) → first_fault ((if b then finds (fault (past_end path) k) else passes) ∷ bad_content p k cut form (Some d) (definite n w) ∷ [])
        ≡ fault_in (if b then faulty (fault (past_end path) k) else elim form as (λ _. Judgement) [ true ↦ opens tag (element_of d) h (Some (k + h + n)) | false ↦ judge_content p (element_of d) tag k h cut n w ])
    go true form = refl
    go false true = refl
    go false false = content_judged p (element_of d) tag k h cut n w

length_judged : (p : Profile) (path : List Open) (d : Due) (tag : Tag) (form : Bool) (k i : ℕ) (cut : Fault) (w : List ℕ)
    → first_fault (bad_length k cut (read_length form w) ∷ too_long p path k i (length w) (read_length form w) ∷ bad_content p k cut form (Some d) (read_length form w) ∷ [])
    ≡ fault_in (judge_length p path (element_of d) tag form k i cut w)
length_judged p path d tag form k i cut w = go (read_length form w) form
  where
    go : (l : LengthRead) (f : Bool)
        → first_fault (bad_length k cut l ∷ too_long p path k i (length w) l ∷ bad_content p k cut f (Some d) l ∷ []) ≡ fault_in (elim l as (λ _. Judgement) [
          | part_length ↦ faulty cut
          | no_length ↦ faulty (fault Cause.BadLength k)
          | indefinite rest ↦ opens tag (element_of d) (i + (length w - length rest)) None
          | definite n rest ↦ judge_size p path (element_of d) tag f k (i + (length w - length rest)) cut n rest
        ])
    go part_length f = refl
    go no_length f = refl
    go (indefinite rest) true = refl
    go (indefinite rest) false = refl
    go (definite n rest) f = size_judged p path d tag f k (i + (length w - length rest)) cut n rest

form_judged : (p : Profile) (path : List Open) (d : Due) (tag : Tag) (form : Bool) (k i : ℕ) (cut : Fault) (w : List ℕ)
    → first_fault (after_identifier p path k cut form i (length w) (Some d) (read_length form w)) ≡ fault_in (judge_form p path (element_of d) tag form k i cut w)
form_judged p path d tag form k i cut w = go (element_of d)
  where
    more : List Finding
    more = bad_length k cut (read_length form w) ∷ too_long p path k i (length w) (read_length form w) ∷ bad_content p k cut form (Some d) (read_length form w) ∷ []

    judged : (b : Bool) → first_fault ((if b then passes else finds (fault Cause.WrongForm k)) ∷ more)
        ≡ fault_in (elim b as (λ _. Judgement) [ true ↦ judge_length p path (element_of d) tag form k i cut w | false ↦ faulty (fault Cause.WrongForm k) ])
    judged true = length_judged p path d tag form k i cut w
    judged false = refl

    go : (e : Element) → first_fault (bad_form k form e ∷ more) ≡ fault_in (elim e as (λ _. Judgement) [
      | left_out part ↦ faulty (fault (Cause.LeftOut part) k)
      | _ ↦ elim (allows e form) as (λ _. Judgement) [ true ↦ judge_length p path (element_of d) tag form k i cut w | false ↦ faulty (fault Cause.WrongForm k) ]
    ])
    go (leaf l) = judged (allows (leaf l) form)
    go (sequence n) = judged (allows (sequence n) form)
    go (list n) = judged (allows (list n) form)
    go (wrapper c) = judged (allows (wrapper c) form)
    go (loose_wrapper c) = judged (allows (loose_wrapper c) form)
    go (segment u) = judged (allows (segment u) form)
    go (foreign n) = judged (allows (foreign n) form)
    go (left_out part) = refl

tag_judged : (p : Profile) (path : List Open) (tag : Tag) (form : Bool) (k i : ℕ) (cut : Fault) (w : List ℕ)
    → first_fault (after_identifier p path k cut form i (length w) (due p tag (next_in p path)) (read_length form w)) ≡ fault_in (judge_tag p path tag form k i cut w)
tag_judged p path tag form k i cut w = go (due p tag (next_in p path))
  where
    go : (x : Option Due) → first_fault (after_identifier p path k cut form i (length w) x (read_length form w))
        ≡ fault_in (elim x as (λ _. Judgement) [ None ↦ faulty (fault Cause.UnexpectedTag k) | Some d ↦ judge_form p path (element_of d) tag form k i cut w ])
    go None = refl
    go (Some d) = form_judged p path d tag form k i cut w

element_judged : (p : Profile) (path : List Open) (k : ℕ) (cut : Fault) (w : List ℕ)
    → first_fault (bad_identifier k cut (read_identifier w) ∷ too_deep p path k ∷ of_element p path k cut (length w) (read_identifier w)) ≡ fault_in (judge_element p path k cut w)
element_judged p path k cut w = go (read_identifier w)
  where
    deep : (b : Bool) (tag : Tag) (form : Bool) (rest : List ℕ)
        → first_fault ((if b then finds (fault Cause.TooDeep k) else passes) ∷ of_element p path k cut (length w) (identified tag form rest))
        ≡ fault_in (if b then faulty (fault Cause.TooDeep k) else judge_tag p path tag form k (length w - length rest) cut rest)
    deep true tag form rest = refl
    deep false tag form rest = tag_judged p path tag form k (length w - length rest) cut rest

    go : (x : IdentifierRead) → first_fault (bad_identifier k cut x ∷ too_deep p path k ∷ of_element p path k cut (length w) x) ≡ fault_in (elim x as (λ _. Judgement) [
      | part_identifier ↦ faulty cut
      | no_identifier ↦ faulty (fault Cause.BadTag k)
      | identified tag constructed rest ↦
          if is_deep p path then faulty (fault Cause.TooDeep k)
          else judge_tag p path tag constructed k (length w - length rest) cut rest
    ])
    go part_identifier = refl
    go no_identifier = refl
    go (identified tag form rest) = deep (is_deep p path) tag form rest

mark_judged : (p : Profile) (path : List Open) (k : ℕ) (cut : Fault) (w : List ℕ) (more : List Finding)
    → first_fault (second_zero p path k cut w ∷ more) ≡ fault_in (judge_mark p path k cut w)
mark_judged p path k cut [] more = refl
mark_judged p path k cut (a ∷ w) more = go (nat_eq a 0)
  where
    go : (b : Bool) → first_fault ((if b then innermost_ends p path k else finds (fault Cause.BadEnd k)) ∷ more)
        ≡ fault_in (elim b as (λ _. Judgement) [ true ↦ judge_end p path k 2 | false ↦ faulty (fault Cause.BadEnd k) ])
    go true = end_judged p path k 2 more
    go false = refl

octets_judged : (p : Profile) (path : List Open) (k : ℕ) (cut : Fault) (a : ℕ) (w : List ℕ)
    → first_fault (end_mark p path k cut (a ∷ w) ∷ bad_identifier k cut (read_identifier (a ∷ w)) ∷ too_deep p path k
    ∷ of_element p path k cut (length (a ∷ w)) (read_identifier (a ∷ w)))
    ≡ fault_in (judge_octets p path k cut (a ∷ w))
octets_judged p path k cut a w = go (is_indefinite path && nat_eq a 0)
  where
    more : List Finding
    more = bad_identifier k cut (read_identifier (a ∷ w)) ∷ too_deep p path k ∷ of_element p path k cut (length (a ∷ w)) (read_identifier (a ∷ w))

    go : (b : Bool) → first_fault ((if b then second_zero p path k cut w else passes) ∷ more)
        ≡ fault_in (elim b as (λ _. Judgement) [ true ↦ judge_mark p path k cut w | false ↦ judge_element p path k cut (a ∷ w) ])
    go true = mark_judged p path k cut w more
    go false = element_judged p path k cut (a ∷ w)

-- the fault at a place is that of what is done there
pub fault_judged : (p : Profile) (path : List Open) (k : ℕ) (rest : List ℕ) → fault_at p path k rest ≡ fault_in (judge p path k rest)
fault_judged p path k rest = go (ends_at path k) (take (bound p path - k) rest)
  where
    cut : Fault
    cut = cut_fault p path k rest

    more : List ℕ → List Finding
    more w = no_octet cut w ∷ end_mark p path k cut w ∷ bad_identifier k cut (read_identifier w) ∷ too_deep p path k ∷ of_element p path k cut (length w) (read_identifier w)

    go : (b : Bool) (w : List ℕ) → first_fault ((if b then innermost_ends p path k else passes) ∷ more w)
        ≡ fault_in (elim b as (λ _. Judgement) [ true ↦ judge_end p path k 0 | false ↦ judge_octets p path k cut w ])
    go true w = end_judged p path k 0 (more w)
    go false [] = refl
    go false (a ∷ w) = octets_judged p path k cut a w

is_faulty : (j : Judgement) (f : Fault) → fault_in j ≡ Some f → j ≡ faulty f
is_faulty (faulty g) f e = let q : g ≡ f = cc in ap faulty q
is_faulty (closes m) f e = absurd cc
is_faulty (opens tag x n end) f e = absurd cc
is_faulty (reads tag n octets) f e = absurd cc

-- so a place where a fault is found has this fault, and the other way round
pub has_fault : (p : Profile) (path : List Open) (k : ℕ) (rest : List ℕ) (f : Fault) → judge p path k rest ≡ faulty f → fault_at p path k rest ≡ Some f
has_fault p path k rest f e = fault_judged p path k rest ∙ ap fault_in e

pub is_judged : (p : Profile) (path : List Open) (k : ℕ) (rest : List ℕ) (f : Fault) → fault_at p path k rest ≡ Some f → judge p path k rest ≡ faulty f
is_judged p path k rest f e = is_faulty (judge p path k rest) f (sym (fault_judged p path k rest) ∙ e)
