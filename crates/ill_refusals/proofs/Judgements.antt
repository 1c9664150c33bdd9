-- What is done at a place, by the octets that are there.
use Rattle.std.proofs.Common.{◌||◌, ◌≡◌, ◌⊎◌, ℕ, suc, ◌+◌, ◌-◌, ◌<◌, ◌≤◌, Bool, true, false, ◌&&◌, List, [], ◌∷◌, ◌++◌, length, take, drop, Option, Some, None, IsTrue, refl, sym, ap, subst, ◌∙◌, inl, inr, arith, if◌then◌else◌, append_assoc, append-nil, length-append, ltb-false, zero}
use Rattle.std.specs.Prelude.{nat_eq, nat_lt, nat_le}
use Rattle.std.proofs.Math.Seq.{take-append-add, take-append_seam}
use Rattle.std.proofs.lemmas.List.{take-append-drop, length-take-le, length-take}
use Rattle.ber_tree.specs.Identifier.{Tag, identifier, HasIdentifier}
use Rattle.ber_tree.specs.Length.{IsLength, short, long}
use Rattle.ber_core.proofs.Identifiers.{IsEnd, identifier_no_end}
use Rattle.ber_leaf.specs.declared.fault.LeafFault.{LeafFault}
use Rattle.ill_schema.specs.declared.refusal.Cause.{Cause}
use Rattle.ill_tables.specs.declared.part.PartId.{PartId}
use Rattle.ill_refusals.specs.Element.{Element, leaf, sequence, list, wrapper, loose_wrapper, segment, foreign, left_out}
use Rattle.ill_refusals.specs.Fault.{Fault, fault, ends_at, is_indefinite, past_end, cut_fault, element_fault, string_fault, is_deep}
use Rattle.ill_refusals.specs.code.Judge.{Judgement, faulty, closes, opens, reads, or_faulty, judge_end, judge_content, judge_size, judge_length, judge_form, judge_tag, judge_element, judge_mark, judge_octets, judge}
use Rattle.ber_tree.specs.Octets.{are_octets}
use Rattle.ill_refusals.specs.Next.{Next, rows, items, either, segments, anything, foreigns, is_last, Due, element_of, due, missing}
use Rattle.ill_refusals.specs.Place.{Open, next_in, bound, allows}
use Rattle.ber_leaf.specs.Profile.{Profile}
use Rattle.ber_core.specs.Reading.{IdentifierRead, identified, part_identifier, no_identifier, read_identifier, LengthRead, definite, indefinite, part_length, no_length, read_length}
use Rattle.ber_tree.proofs.Lists.{two_cases}
use Rattle.std.proofs.lemmas.Bool.{and_parts}
use Rattle.ber_core.proofs.ReadOctets.{identifier_read, length_read, read_is_identifier, read_is_length, read_is_indefinite, octets_left, octets_right}

-- an element that may begin there
pub record IsStarted (p : Profile) (path : List Open) (tag : Tag) (form : Bool) (d : Due) : Type 0 where
  pub has_identifier : HasIdentifier tag form
  pub is_due : due p tag (next_in p path) ≡ Some d
  pub allowed : allows (element_of d) form ≡ true
  pub shallow : length path < 32

-- the innermost element may end
pub record MayEnd (p : Profile) (o : Open) (outer : List Open) : Type 0 where
  pub complete : missing p (next_in p (o ∷ outer)) ≡ None
  pub no_fault : string_fault p o.element o.trees ≡ None

not_less : (a b : ℕ) → b ≤ a → nat_lt a b ≡ false
not_less a b h = grind arith

end_judged : (p : Profile) (o : Open) (outer : List Open) (k m : ℕ) → MayEnd p o outer → judge_end p (o ∷ outer) k m ≡ closes m
end_judged p o outer k m h =
    ap (λ x. elim x as (λ _. Judgement) [ Some part ↦ faulty (fault (Cause.Missing part) k) | None ↦ or_faulty (string_fault p o.element o.trees) o.start (closes m) ]) h.complete
    ∙ ap (λ x. or_faulty x o.start (closes m)) h.no_fault

abbrev judge_body : Profile → List Open → ℕ → List ℕ → Bool → Judgement
judge_body p path k rest b = elim b as (λ _. Judgement) [
  | true ↦ judge_end p path k 0
  | false ↦ judge_octets p path k (cut_fault p path k rest) (take (bound p path - k) rest)
]

same_end : (o : Open) (outer : List Open) (k : ℕ) → o.end ≡ Some k → ends_at (o ∷ outer) k ≡ true
same_end o outer k e = ap (λ x. elim x as (λ _. Bool) [ Some e ↦ nat_eq e k | None ↦ false ]) e ∙ (let q : nat_eq k k ≡ true = grind arith in q)

-- a definite element ends
pub ends_judged : (p : Profile) (o : Open) (outer : List Open) (k : ℕ) (rest : List ℕ) → o.end ≡ Some k → MayEnd p o outer → judge p (o ∷ outer) k rest ≡ closes 0
ends_judged p o outer k rest e h = ap (judge_body p (o ∷ outer) k rest) (same_end o outer k e) ∙ end_judged p o outer k 0 h

pub bound_some : (p : Profile) (o : Open) (outer : List Open) (e : ℕ) → o.end ≡ Some e → bound p (o ∷ outer) ≡ e
bound_some p o outer e h = rw h refl

-- no definite element ends before its bound
no_end : (p : Profile) (path : List Open) (k : ℕ) → k < bound p path → ends_at path k ≡ false
no_end p [] k h = refl
no_end p (o ∷ outer) k h = go o.end refl
  where
    go : (x : Option ℕ) → o.end ≡ x → ends_at (o ∷ outer) k ≡ false
    go None e = rw e refl
    go (Some n) e =
        let b : bound p (o ∷ outer) ≡ n = bound_some p o outer n e in
        ap (λ x. elim x as (λ _. Bool) [ Some e ↦ nat_eq e k | None ↦ false ]) e ∙ (let q : nat_eq n k ≡ false = grind (arith, b, h) in q)

not_ended : (p : Profile) (path : List Open) (k : ℕ) (rest : List ℕ) → k < bound p path → judge p path k rest ≡ judge_octets p path k (cut_fault p path k rest) (take (bound p path - k) rest)
not_ended p path k rest h = ap (judge_body p path k rest) (no_end p path k h)

take_two : (m a b : ℕ) (w : List ℕ) → 2 ≤ m → take m (a ∷ b ∷ w) ≡ a ∷ b ∷ take (m - 2) w
take_two m a b w h = let e : 2 + (m - 2) ≡ m = omega arith in ap (λ n. take n (a ∷ b ∷ w)) (sym e) ∙ take-append-add (a ∷ b ∷ []) w (m - 2)

-- an end mark
pub mark_judged : (p : Profile) (o : Open) (outer : List Open) (k : ℕ) (w : List ℕ) → o.end ≡ None → k + 2 ≤ bound p (o ∷ outer) → MayEnd p o outer → judge p (o ∷ outer) k (0 ∷ 0 ∷ w) ≡ closes 2
mark_judged p o outer k w e le h =
    not_ended p (o ∷ outer) k (0 ∷ 0 ∷ w) (omega arith)
    ∙ ap (judge_octets p (o ∷ outer) k (cut_fault p (o ∷ outer) k (0 ∷ 0 ∷ w))) (take_two (bound p (o ∷ outer) - k) 0 0 w (omega arith))
    ∙ ap (λ x. elim (elim x as (λ _. Bool) [ Some e ↦ false | None ↦ true ] && true) as (λ _. Judgement) [
      | true ↦ judge_end p (o ∷ outer) k 2
      | false ↦ judge_element p (o ∷ outer) k (cut_fault p (o ∷ outer) k (0 ∷ 0 ∷ w)) (0 ∷ 0 ∷ take (bound p (o ∷ outer) - k - 2) w)
    ]) e
    ∙ end_judged p o outer k 2 h

-- an element's first octet is no end mark's
no_mark : (p : Profile) (path : List Open) (k : ℕ) (cut : Fault) (w : List ℕ) → (IsEnd w → ⊥) → judge_octets p path k cut w ≡ judge_element p path k cut w
no_mark p path k cut [] h = absurd (h tt)
no_mark p path k cut (a ∷ w) h =
    let e : nat_eq a 0 ≡ false = elim (two_cases (nat_eq a 0)) [ inr i ↦ i | inl i ↦ absurd (h (let z : a ≡ 0 = grind (arith, i) in z)) ] in
    ap (λ x. elim (is_indefinite path && x) as (λ _. Judgement) [ true ↦ judge_mark p path k cut w | false ↦ judge_element p path k cut (a ∷ w) ]) e
    ∙ ap (λ x. elim x as (λ _. Judgement) [ true ↦ judge_mark p path k cut w | false ↦ judge_element p path k cut (a ∷ w) ]) (and_false (is_indefinite path))
  where
    and_false : (b : Bool) → b && false ≡ false
    and_false true = refl
    and_false false = refl

pub form_judged : (p : Profile) (path : List Open) (e : Element) (tag : Tag) (f : Bool) (k i : ℕ) (cut : Fault) (w : List ℕ) → allows e f ≡ true
    → judge_form p path e tag f k i cut w ≡ judge_length p path e tag f k i cut w
form_judged p path (leaf l) tag f k i cut w h = ap (λ x. elim x as (λ _. Judgement) [ true ↦ judge_length p path (leaf l) tag f k i cut w | false ↦ faulty (fault Cause.WrongForm k) ]) h
form_judged p path (sequence node) tag f k i cut w h = ap (λ x. elim x as (λ _. Judgement) [ true ↦ judge_length p path (sequence node) tag f k i cut w | false ↦ faulty (fault Cause.WrongForm k) ]) h
form_judged p path (list node) tag f k i cut w h = ap (λ x. elim x as (λ _. Judgement) [ true ↦ judge_length p path (list node) tag f k i cut w | false ↦ faulty (fault Cause.WrongForm k) ]) h
form_judged p path (wrapper c) tag f k i cut w h = ap (λ x. elim x as (λ _. Judgement) [ true ↦ judge_length p path (wrapper c) tag f k i cut w | false ↦ faulty (fault Cause.WrongForm k) ]) h
form_judged p path (loose_wrapper c) tag f k i cut w h = ap (λ x. elim x as (λ _. Judgement) [ true ↦ judge_length p path (loose_wrapper c) tag f k i cut w | false ↦ faulty (fault Cause.WrongForm k) ]) h
form_judged p path (segment u) tag f k i cut w h = ap (λ x. elim x as (λ _. Judgement) [ true ↦ judge_length p path (segment u) tag f k i cut w | false ↦ faulty (fault Cause.WrongForm k) ]) h
form_judged p path (foreign n) tag f k i cut w h = refl
form_judged p path (left_out x) tag f k i cut w h = absurd cc

-- what is due may open
opens_further : (p : Profile) (tag : Tag) (n : Next) (d : Due) → due p tag n ≡ Some d → is_last n ≡ false
opens_further p tag (foreigns zero) d h = absurd (let q : None ≡ Some d = h in cc)
opens_further p tag (foreigns (suc n)) d h = refl
opens_further p tag (rows cs) d h = refl
opens_further p tag (items c) d h = refl
opens_further p tag (either c) d h = refl
opens_further p tag (segments u) d h = refl
opens_further p tag (anything c) d h = refl

pub neither : (a b : Bool) → a || b ≡ false → (a ≡ false) × (b ≡ false)
neither true b h = absurd cc
neither false b h = (refl, h)

none_of : (a b : Bool) → a ≡ false → b ≡ false → a || b ≡ false
none_of a b e f = rw (e, f) refl

element_judged : (p : Profile) (path : List Open) (tag : Tag) (f : Bool) (d : Due) (k : ℕ) (cut : Fault) (w : List ℕ) → IsStarted p path tag f d
    → judge_element p path k cut (identifier tag f ++ w) ≡ judge_length p path (element_of d) tag f k (length (identifier tag f)) cut w
element_judged p path tag f d k cut w h =
    let s : is_deep p path ≡ false = none_of (nat_le 32 (length path)) (is_last (next_in p path)) (let l = h.shallow in grind (arith, l)) (opens_further p tag (next_in p path) d h.is_due) in
    let i : length (identifier tag f ++ w) - length w ≡ length (identifier tag f) = omega (arith, length-append (identifier tag f) w) in
    ap (λ r. elim r as (λ _. Judgement) [
      | part_identifier ↦ faulty cut
      | no_identifier ↦ faulty (fault Cause.BadTag k)
      | identified t form rest ↦
          if is_deep p path then faulty (fault Cause.TooDeep k)
          else judge_tag p path t form k (length (identifier tag f ++ w) - length rest) cut rest
    ]) (identifier_read tag f w h.has_identifier)
    ∙ ap (λ (b : Bool). if b then faulty (fault Cause.TooDeep k) else judge_tag p path tag f k (length (identifier tag f ++ w) - length w) cut w) s
    ∙ ap (λ n. judge_tag p path tag f k n cut w) i
    ∙ ap (λ x. elim x as (λ _. Judgement) [ None ↦ faulty (fault Cause.UnexpectedTag k) | Some d ↦ judge_form p path (element_of d) tag f k (length (identifier tag f)) cut w ]) h.is_due
    ∙ form_judged p path (element_of d) tag f k (length (identifier tag f)) cut w h.allowed

abbrev pub length_body : Profile → List Open → Element → Tag → Bool → ℕ → ℕ → Fault → List ℕ → LengthRead → Judgement
length_body p path e tag f k i cut w r = elim r as (λ _. Judgement) [
  | part_length ↦ faulty cut
  | no_length ↦ faulty (fault Cause.BadLength k)
  | indefinite rest ↦ opens tag e (i + (length w - length rest)) None
  | definite n rest ↦ judge_size p path e tag f k (i + (length w - length rest)) cut n rest
]

definite_judged : (p : Profile) (path : List Open) (e : Element) (tag : Tag) (f : Bool) (k i : ℕ) (cut : Fault) (n : ℕ) (os w : List ℕ) → IsLength n os
    → judge_length p path e tag f k i cut (os ++ w) ≡ judge_size p path e tag f k (i + length os) cut n w
definite_judged p path e tag f k i cut n os w h =
    let j : length (os ++ w) - length w ≡ length os = omega (arith, length-append os w) in
    ap (length_body p path e tag f k i cut (os ++ w)) (length_read f n os w h) ∙ ap (λ x. judge_size p path e tag f k (i + x) cut n w) j

-- the octets as far as the bound reaches
take_through : (m : ℕ) (a b : List ℕ) → length a ≤ m → take m (a ++ b) ≡ a ++ take (m - length a) b
take_through m a b h = let e : length a + (m - length a) ≡ m = omega arith in ap (λ n. take n (a ++ b)) (sym e) ∙ take-append-add a b (m - length a)

pub id_size : (tag : Tag) (f : Bool) → HasIdentifier tag f → 1 ≤ length (identifier tag f)
id_size tag f h = go (identifier tag f) (λ e. identifier_no_end tag f [] h (subst IsEnd (sym (append-nil (identifier tag f))) e))
  where
    go : (a : List ℕ) → (IsEnd a → ⊥) → 1 ≤ length a
    go [] n = absurd (n tt)
    go (x ∷ a) n = omega arith

pub length_size : (n : ℕ) (os : List ℕ) → IsLength n os → 1 ≤ length os
length_size n os (short h) = omega arith
length_size n os (long h k s e) = omega arith

-- an element's header, and what is judged after its identifier
started_judged : (p : Profile) (path : List Open) (tag : Tag) (f : Bool) (d : Due) (k : ℕ) (os w : List ℕ) → IsStarted p path tag f d → k + length (identifier tag f) + length os ≤ bound p path
    → judge p path k (identifier tag f ++ (os ++ w))
    ≡ judge_length p path (element_of d) tag f k (length (identifier tag f)) (cut_fault p path k (identifier tag f ++ (os ++ w)))
    (os ++ take (bound p path - k - length (identifier tag f) - length os) w)
started_judged p path tag f d k os w h le =
    let id = identifier tag f in
    let s = id_size tag f h.has_identifier in
    let m = bound p path - k in
    let cut = cut_fault p path k (id ++ (os ++ w)) in
    let z = os ++ take (m - length id - length os) w in
    let t : take m (id ++ (os ++ w)) ≡ id ++ z =
    take_through m id (os ++ w) (omega arith) ∙ ap (λ y. id ++ y) (take_through (m - length id) os w (omega arith)) in
    not_ended p path k (id ++ (os ++ w)) (omega arith)
    ∙ ap (judge_octets p path k cut) t
    ∙ no_mark p path k cut (id ++ z) (λ e. identifier_no_end tag f z h.has_identifier e)
    ∙ element_judged p path tag f d k cut z h

-- a constructed element of a definite length
pub opens_judged : (p : Profile) (path : List Open) (tag : Tag) (d : Due) (k n : ℕ) (os w : List ℕ) → IsStarted p path tag true d → IsLength n os
    → k + (length (identifier tag true) + length os) + n ≤ bound p path
    → judge p path k (identifier tag true ++ (os ++ w)) ≡ opens tag (element_of d) (length (identifier tag true) + length os) (Some (k + (length (identifier tag true) + length os) + n))
opens_judged p path tag d k n os w h l le =
    let b : nat_lt (bound p path) (k + (length (identifier tag true) + length os) + n) ≡ false = not_less _ _ le in
    started_judged p path tag true d k os w h (omega arith)
    ∙ definite_judged p path (element_of d) tag true k (length (identifier tag true)) _ n os _ l
    ∙ ap (λ (x : Bool). if x then faulty (fault (past_end path) k) else opens tag (element_of d) (length (identifier tag true) + length os) (Some (k + (length (identifier tag true) + length os) + n))) b

-- of the indefinite form
pub indefinite_judged : (p : Profile) (path : List Open) (tag : Tag) (d : Due) (k : ℕ) (w : List ℕ) → IsStarted p path tag true d
    → k + (length (identifier tag true) + 1) ≤ bound p path
    → judge p path k (identifier tag true ++ (128 ∷ w)) ≡ opens tag (element_of d) (length (identifier tag true) + 1) None
indefinite_judged p path tag d k w h le =
    started_judged p path tag true d k (128 ∷ []) w h (omega arith)
    ∙ ap (λ x. opens tag (element_of d) (length (identifier tag true) + x) None) (let e : suc (length (take (bound p path - k - length (identifier tag true) - 1) w)) - length (take (bound p path - k - length (identifier tag true) - 1) w) ≡ 1 = omega arith in e)

-- a primitive element
pub reads_judged : (p : Profile) (path : List Open) (tag : Tag) (d : Due) (k : ℕ) (os content w : List ℕ) → IsStarted p path tag false d → IsLength (length content) os
    → element_fault p (element_of d) content ≡ None → k + (length (identifier tag false) + length os) + length content ≤ bound p path
    → judge p path k (identifier tag false ++ (os ++ (content ++ w))) ≡ reads tag (length (identifier tag false) + length os) content
reads_judged p path tag d k os content w h l ok le =
    let i = length (identifier tag false) in
    let n = length content in
    let cut = cut_fault p path k (identifier tag false ++ (os ++ (content ++ w))) in
    let b : nat_lt (bound p path) (k + (i + length os) + n) ≡ false = not_less _ _ le in
    let m = bound p path - k - i - length os in
    let t : take m (content ++ w) ≡ content ++ take (m - n) w = take_through m content w (omega arith) in
    let c : nat_lt (length (content ++ take (m - n) w)) n ≡ false = not_less _ _ (omega (arith, length-append content (take (m - n) w))) in
    started_judged p path tag false d k os (content ++ w) h (omega arith)
    ∙ definite_judged p path (element_of d) tag false k i cut n os _ l
    ∙ ap (λ (x : Bool). if x then faulty (fault (past_end path) k) else judge_content p (element_of d) tag k (i + length os) cut n (take m (content ++ w))) b
    ∙ ap (judge_content p (element_of d) tag k (i + length os) cut n) t
    ∙ ap (λ (x : Bool). if x then faulty cut else or_faulty (element_fault p (element_of d) (take n (content ++ take (m - n) w))) k (reads tag (i + length os) (take n (content ++ take (m - n) w)))) c
    ∙ ap (λ x. or_faulty (element_fault p (element_of d) x) k (reads tag (i + length os) x)) (take-append_seam content (take (m - n) w))
    ∙ ap (λ x. or_faulty x k (reads tag (i + length os) content)) ok

-- the other way round: what a judgement says of the octets
pub record Closes (p : Profile) (path : List Open) (k : ℕ) (rest : List ℕ) (m : ℕ) : Type 0 where
  pub innermost : Open
  pub outer : List Open
  pub is_path : path ≡ innermost ∷ outer
  pub may_end : MayEnd p innermost outer
  pub how : ((m ≡ 0) × (innermost.end ≡ Some k)) ⊎ ((m ≡ 2) × (innermost.end ≡ None) × ((w : List ℕ) × (rest ≡ 0 ∷ 0 ∷ w)) × (k + 2 ≤ bound p path))

pub record Opens (p : Profile) (path : List Open) (k : ℕ) (rest : List ℕ) (tag : Tag) (e : Element) (h : ℕ) (end : Option ℕ) : Type 0 where
  pub found : Due
  pub started : IsStarted p path tag true found
  pub is_element : element_of found ≡ e
  pub octets : List ℕ
  pub behind : List ℕ
  pub spelled : rest ≡ identifier tag true ++ (octets ++ behind)
  pub size : h ≡ length (identifier tag true) + length octets
  pub within : k + h ≤ bound p path
  pub how : ((octets ≡ 128 ∷ []) × (end ≡ None)) ⊎ ((n : ℕ) × IsLength n octets × (end ≡ Some (k + h + n)) × (k + h + n ≤ bound p path))

pub record Reads (p : Profile) (path : List Open) (k : ℕ) (rest : List ℕ) (tag : Tag) (h : ℕ) (content : List ℕ) : Type 0 where
  pub found : Due
  pub started : IsStarted p path tag false found
  pub octets : List ℕ
  pub behind : List ℕ
  pub spelled : rest ≡ identifier tag false ++ (octets ++ (content ++ behind))
  pub is_length : IsLength (length content) octets
  pub size : h ≡ length (identifier tag false) + length octets
  pub within : k + h + length content ≤ bound p path
  pub no_fault : element_fault p (element_of found) content ≡ None

abbrev pub Judged : Profile → List Open → ℕ → List ℕ → Judgement → Type 0
Judged p path k rest (faulty f) = Unit {0}
Judged p path k rest (closes m) = Closes p path k rest m
Judged p path k rest (opens tag e h end) = Opens p path k rest tag e h end
Judged p path k rest (reads tag h content) = Reads p path k rest tag h content

or_judged : (p : Profile) (path : List Open) (k : ℕ) (rest : List ℕ) (c : Option LeafFault) (at : ℕ) (j : Judgement) → (c ≡ None → Judged p path k rest j) → Judged p path k rest (or_faulty c at j)
or_judged p path k rest (Some c) at j h = tt
or_judged p path k rest None at j h = h refl

end_says : (p : Profile) (o : Open) (outer : List Open) (k : ℕ) (rest : List ℕ) (m : ℕ)
    → ((m ≡ 0) × (o.end ≡ Some k)) ⊎ ((m ≡ 2) × (o.end ≡ None) × ((w : List ℕ) × (rest ≡ 0 ∷ 0 ∷ w)) × (k + 2 ≤ bound p (o ∷ outer)))
    → Judged p (o ∷ outer) k rest (judge_end p (o ∷ outer) k m)
end_says p o outer k rest m how = go (missing p (next_in p (o ∷ outer))) refl
  where
    go : (x : Option PartId) → missing p (next_in p (o ∷ outer)) ≡ x → Judged p (o ∷ outer) k rest
        (elim x as (λ _. Judgement) [ Some part ↦ faulty (fault (Cause.Missing part) k) | None ↦ or_faulty (string_fault p o.element o.trees) o.start (closes m) ])
    go (Some part) e = tt
    go None e = or_judged p (o ∷ outer) k rest (string_fault p o.element o.trees) o.start (closes m) (λ f.
        record { innermost = o; outer = outer; is_path = refl; may_end = record { complete = e; no_fault = f }; how = how })

abbrev form_body : Profile → List Open → Element → Tag → Bool → ℕ → ℕ → Fault → List ℕ → Bool → Judgement
form_body p path e tag f k i cut w b = elim b as (λ _. Judgement) [ true ↦ judge_length p path e tag f k i cut w | false ↦ faulty (fault Cause.WrongForm k) ]

form_cases : (p : Profile) (path : List Open) (e : Element) (tag : Tag) (f : Bool) (k i : ℕ) (cut : Fault) (w : List ℕ) → (allows e f ≡ true) ⊎ ((x : Fault) × (judge_form p path e tag f k i cut w ≡ faulty x))
form_cases p path (leaf l) tag f k i cut w = elim (two_cases (allows (leaf l) f)) [ inl h ↦ inl h | inr h ↦ inr (fault Cause.WrongForm k, ap (form_body p path (leaf l) tag f k i cut w) h) ]
form_cases p path (sequence node) tag f k i cut w = elim (two_cases (allows (sequence node) f)) [ inl h ↦ inl h | inr h ↦ inr (fault Cause.WrongForm k, ap (form_body p path (sequence node) tag f k i cut w) h) ]
form_cases p path (list node) tag f k i cut w = elim (two_cases (allows (list node) f)) [ inl h ↦ inl h | inr h ↦ inr (fault Cause.WrongForm k, ap (form_body p path (list node) tag f k i cut w) h) ]
form_cases p path (wrapper c) tag f k i cut w = elim (two_cases (allows (wrapper c) f)) [ inl h ↦ inl h | inr h ↦ inr (fault Cause.WrongForm k, ap (form_body p path (wrapper c) tag f k i cut w) h) ]
form_cases p path (loose_wrapper c) tag f k i cut w = elim (two_cases (allows (loose_wrapper c) f)) [ inl h ↦ inl h | inr h ↦ inr (fault Cause.WrongForm k, ap (form_body p path (loose_wrapper c) tag f k i cut w) h) ]
form_cases p path (segment u) tag f k i cut w = inl refl
form_cases p path (foreign n) tag f k i cut w = inl refl
form_cases p path (left_out x) tag f k i cut w = inr (fault (Cause.LeftOut x) k, refl)

-- octets that may be read: the front of the rest, within the bound
pub record IsFront (p : Profile) (path : List Open) (k : ℕ) (rest : List ℕ) (w : List ℕ) : Type 0 where
  pub remaining : List ℕ
  pub whole : rest ≡ w ++ remaining
  pub near : length w ≤ bound p path - k
  pub octets : IsTrue (are_octets w)

primitive_says : (p : Profile) (path : List Open) (tag : Tag) (d : Due) (k : ℕ) (rest : List ℕ) (cut : Fault) (n h : ℕ) (os r : List ℕ) → IsStarted p path tag false d
    → IsFront p path k rest (identifier tag false ++ (os ++ r)) → IsLength n os → h ≡ length (identifier tag false) + length os
    → Judged p path k rest (judge_content p (element_of d) tag k h cut n r)
primitive_says p path tag d k rest cut n h os r s w l size = elim (two_cases (nat_lt (length r) n)) [
  | inl e ↦ rw e tt
  | inr e ↦ rw e (or_judged p path k rest (element_fault p (element_of d) (take n r)) k (reads tag h (take n r)) (λ f.
      let id = identifier tag false in
      let le : n ≤ length r = ltb-false _ _ e in
      let c : length (take n r) ≡ n = length-take-le n r le in
      let t : take n r ++ drop n r ≡ r = take-append-drop n r in
      let near = w.near in
      let a = length-append id (os ++ r) in let b = length-append os r in let i = id_size tag false s.has_identifier in
      record {
        found = d;
        started = s;
        octets = os;
        behind = drop n r ++ w.remaining;
        spelled = w.whole ∙ append_assoc id (os ++ r) w.remaining ∙ ap (λ z. id ++ z) (append_assoc os r w.remaining)
            ∙ ap (λ z. id ++ (os ++ (z ++ w.remaining))) (sym t) ∙ ap (λ z. id ++ (os ++ z)) (append_assoc (take n r) (drop n r) w.remaining);
        is_length = subst (λ m. IsLength m os) (sym c) l;
        size = size;
        within = omega arith;
        no_fault = f;
      }))
]

size_says : (p : Profile) (path : List Open) (tag : Tag) (f : Bool) (d : Due) (k : ℕ) (rest : List ℕ) (cut : Fault) (n h : ℕ) (os r : List ℕ) → IsStarted p path tag f d
    → IsFront p path k rest (identifier tag f ++ (os ++ r)) → IsLength n os → h ≡ length (identifier tag f) + length os
    → Judged p path k rest (judge_size p path (element_of d) tag f k h cut n r)
size_says p path tag f d k rest cut n h os r s w l size = elim (two_cases (nat_lt (bound p path) (k + h + n))) [
  | inl e ↦ rw e tt
  | inr e ↦ rw e (go f s w size (ltb-false _ _ e))
]
  where
    go : (f : Bool) → IsStarted p path tag f d → IsFront p path k rest (identifier tag f ++ (os ++ r)) → h ≡ length (identifier tag f) + length os → k + h + n ≤ bound p path
        → Judged p path k rest (elim f as (λ _. Judgement) [ true ↦ opens tag (element_of d) h (Some (k + h + n)) | false ↦ judge_content p (element_of d) tag k h cut n r ])
    go true s w size le = record {
      found = d;
      started = s;
      is_element = refl;
      octets = os;
      behind = r ++ w.remaining;
      spelled = w.whole ∙ append_assoc (identifier tag true) (os ++ r) w.remaining ∙ ap (λ z. identifier tag true ++ z) (append_assoc os r w.remaining);
      size = size;
      within = omega arith;
      how = inr (n, l, refl, le);
    }
    go false s w size le = primitive_says p path tag d k rest cut n h os r s w l size

length_says : (p : Profile) (path : List Open) (tag : Tag) (f : Bool) (d : Due) (k i : ℕ) (rest : List ℕ) (cut : Fault) (w : List ℕ) → IsStarted p path tag f d
    → IsFront p path k rest (identifier tag f ++ w) → i ≡ length (identifier tag f) → Judged p path k rest (judge_length p path (element_of d) tag f k i cut w)
length_says p path tag f d k i rest cut w s front e = go (read_length f w) refl
  where
    marked : (f : Bool) (r : List ℕ) → f ≡ true → w ≡ 128 ∷ r → IsStarted p path tag f d → IsFront p path k rest (identifier tag f ++ w) → i ≡ length (identifier tag f)
        → Opens p path k rest tag (element_of d) (i + (length w - length r)) None
    marked false r g wr s front e = absurd cc
    marked true r g wr s front e =
        let near = front.near in
        let a = length-append (identifier tag true) w in let b : length w ≡ suc (length r) = ap length wr in
        record {
          found = d;
          started = s;
          is_element = refl;
          octets = 128 ∷ [];
          behind = r ++ front.remaining;
          spelled = front.whole ∙ append_assoc (identifier tag true) w front.remaining ∙ ap (λ z. identifier tag true ++ (z ++ front.remaining)) wr;
          size = omega arith;
          within = let i1 = id_size tag true s.has_identifier in omega arith;
          how = inl (refl, refl);
        }

    go : (x : LengthRead) → read_length f w ≡ x → Judged p path k rest (length_body p path (element_of d) tag f k i cut w x)
    go part_length q = tt
    go no_length q = tt
    go (indefinite r) q = let u = read_is_indefinite f w r (octets_right (identifier tag f) w front.octets) q in marked f r u.0 u.1 s front e
    go (definite n r) q =
        let u = read_is_length f w n r (octets_right (identifier tag f) w front.octets) q in
        size_says p path tag f d k rest cut n (i + (length w - length r)) u.0 r s (subst (λ z. IsFront p path k rest (identifier tag f ++ z)) u.2 front) u.1
        (omega (arith, ap length u.2, length-append u.0 r))

tag_says : (p : Profile) (path : List Open) (tag : Tag) (f : Bool) (k i : ℕ) (rest : List ℕ) (cut : Fault) (w : List ℕ) → HasIdentifier tag f → length path < 32
    → IsFront p path k rest (identifier tag f ++ w) → i ≡ length (identifier tag f) → Judged p path k rest (judge_tag p path tag f k i cut w)
tag_says p path tag f k i rest cut w h deep front e = go (due p tag (next_in p path)) refl
  where
    go : (x : Option Due) → due p tag (next_in p path) ≡ x
        → Judged p path k rest (elim x as (λ _. Judgement) [ None ↦ faulty (fault Cause.UnexpectedTag k) | Some d ↦ judge_form p path (element_of d) tag f k i cut w ])
    go None q = tt
    go (Some d) q = elim (form_cases p path (element_of d) tag f k i cut w) [
      | inl a ↦ subst (Judged p path k rest) (sym (form_judged p path (element_of d) tag f k i cut w a))
          (length_says p path tag f d k i rest cut w (record { has_identifier = h; is_due = q; allowed = a; shallow = deep }) front e)
      | inr x ↦ subst (Judged p path k rest) (sym x.1) tt
    ]

element_says : (p : Profile) (path : List Open) (k : ℕ) (rest : List ℕ) (cut : Fault) (w : List ℕ) → IsFront p path k rest w → Judged p path k rest (judge_element p path k cut w)
element_says p path k rest cut w front = go (read_identifier w) refl
  where
    go : (x : IdentifierRead) → read_identifier w ≡ x → Judged p path k rest (elim x as (λ _. Judgement) [
      | part_identifier ↦ faulty cut
      | no_identifier ↦ faulty (fault Cause.BadTag k)
      | identified tag constructed r ↦
          if is_deep p path then faulty (fault Cause.TooDeep k)
          else judge_tag p path tag constructed k (length w - length r) cut r
    ])
    go part_identifier q = tt
    go no_identifier q = tt
    go (identified tag f r) q = elim (two_cases (is_deep p path)) [
      | inl e ↦ rw e tt
      | inr e ↦ rw e (
          let u = read_is_identifier w tag f r front.octets q in
          tag_says p path tag f k (length w - length r) rest cut r u.0 (let a = (neither (nat_le 32 (length path)) (is_last (next_in p path)) e).0 in let z : length path < 32 = grind (arith, a) in z)
          (subst (IsFront p path k rest) u.1 front) (omega (arith, ap length u.1, length-append (identifier tag f) r)))
    ]

mark_says : (p : Profile) (o : Open) (outer : List Open) (k : ℕ) (rest : List ℕ) (cut : Fault) (w : List ℕ) → o.end ≡ None → IsFront p (o ∷ outer) k rest (0 ∷ w)
    → Judged p (o ∷ outer) k rest (judge_mark p (o ∷ outer) k cut w)
mark_says p o outer k rest cut [] e front = tt
mark_says p o outer k rest cut (a ∷ w) e front = go (nat_eq a 0) refl
  where
    go : (b : Bool) → nat_eq a 0 ≡ b → Judged p (o ∷ outer) k rest (elim b as (λ _. Judgement) [ true ↦ judge_end p (o ∷ outer) k 2 | false ↦ faulty (fault Cause.BadEnd k) ])
    go false i = tt
    go true i =
        let z : a ≡ 0 = grind (arith, i) in
        let near = front.near in
        end_says p o outer k rest 2 (inr (refl, e, (w ++ front.remaining, front.whole ∙ ap (λ (x : ℕ). 0 ∷ x ∷ (w ++ front.remaining)) z), omega arith))

open_end : (o : Open) (outer : List Open) (x : Option ℕ) → o.end ≡ x → is_indefinite (o ∷ outer) ≡ true → o.end ≡ None
open_end o outer None q h = q
open_end o outer (Some e) q h = absurd (let r : false ≡ true = sym (ap (λ x. elim x as (λ _. Bool) [ Some e ↦ false | None ↦ true ]) q) ∙ h in cc)

octets_say : (p : Profile) (path : List Open) (k : ℕ) (rest : List ℕ) (cut : Fault) (w : List ℕ) → IsFront p path k rest w → Judged p path k rest (judge_octets p path k cut w)
octets_say p path k rest cut [] front = tt
octets_say p [] k rest cut (a ∷ w) front = element_says p [] k rest cut (a ∷ w) front
octets_say p (o ∷ outer) k rest cut (a ∷ w) front = go (is_indefinite (o ∷ outer) && nat_eq a 0) refl
  where
    go : (b : Bool) → is_indefinite (o ∷ outer) && nat_eq a 0 ≡ b
        → Judged p (o ∷ outer) k rest (elim b as (λ _. Judgement) [ true ↦ judge_mark p (o ∷ outer) k cut w | false ↦ judge_element p (o ∷ outer) k cut (a ∷ w) ])
    go false i = element_says p (o ∷ outer) k rest cut (a ∷ w) front
    go true i =
        let q = and_parts (is_indefinite (o ∷ outer)) (nat_eq a 0) i in
        let n : nat_eq a 0 ≡ true = q.1 in
        let z : a ≡ 0 = grind (arith, n) in
        mark_says p o outer k rest cut w (open_end o outer o.end refl q.0) (subst (λ (x : ℕ). IsFront p (o ∷ outer) k rest (x ∷ w)) z front)

ended_says : (p : Profile) (path : List Open) (k : ℕ) (rest : List ℕ) → ends_at path k ≡ true → Judged p path k rest (judge_end p path k 0)
ended_says p [] k rest e = absurd cc
ended_says p (o ∷ outer) k rest e = end_says p o outer k rest 0 (inl (refl, go o.end refl))
  where
    go : (x : Option ℕ) → o.end ≡ x → o.end ≡ Some k
    go None q = absurd (let r : false ≡ true = sym (ap (λ x. elim x as (λ _. Bool) [ Some e ↦ nat_eq e k | None ↦ false ]) q) ∙ e in cc)
    go (Some n) q =
        let r : nat_eq n k ≡ true = sym (ap (λ x. elim x as (λ _. Bool) [ Some e ↦ nat_eq e k | None ↦ false ]) q) ∙ e in
        let s : n ≡ k = grind (arith, r) in
        q ∙ ap Some s

pub judged : (p : Profile) (path : List Open) (k : ℕ) (rest : List ℕ) → IsTrue (are_octets rest) → Judged p path k rest (judge p path k rest)
judged p path k rest h = go (ends_at path k) refl
  where
    go : (b : Bool) → ends_at path k ≡ b → Judged p path k rest (judge_body p path k rest b)
    go true e = ended_says p path k rest e
    go false e =
        let t : take (bound p path - k) rest ++ drop (bound p path - k) rest ≡ rest = take-append-drop (bound p path - k) rest in
        octets_say p path k rest (cut_fault p path k rest) (take (bound p path - k) rest) (record {
          remaining = drop (bound p path - k) rest;
          whole = sym t;
          near = omega (arith, length-take (bound p path - k) rest);
          octets = octets_left (take (bound p path - k) rest) (drop (bound p path - k) rest) (subst (λ z. IsTrue (are_octets z)) (sym t) h);
        })
