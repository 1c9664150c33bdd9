-- Only a missing octet makes an input end too early.
use Rattle.std.proofs.Common.{◌≡◌, ◌⊎◌, ℕ, ◌+◌, ◌-◌, ◌<◌, ◌≤◌, Bool, true, false, ◌&&◌, List, [], ◌∷◌, length, take, Option, Some, None, refl, sym, ap, subst, ◌∙◌, inl, inr, arith, if◌then◌else◌, ltb-true, ltb-false, ap₂}
use Rattle.std.specs.Prelude.{nat_eq, nat_lt, nat_le, is_some}
use Rattle.std.proofs.lemmas.Bool.{and_parts}
use Rattle.std.proofs.lemmas.List.{take_all}
use Rattle.ber_tree.specs.Identifier.{Tag}
use Rattle.ber_leaf.specs.declared.fault.LeafFault.{LeafFault}
use Rattle.ber_leaf.specs.Profile.{Profile}
use Rattle.ill_schema.specs.declared.refusal.Cause.{Cause}
use Rattle.ill_tables.specs.declared.part.PartId.{PartId}
use Rattle.ill_schema.specs.Causes.{cause_of}
use Rattle.ill_refusals.specs.Element.{Element, leaf, sequence, list, wrapper, loose_wrapper, segment, foreign, left_out}
use Rattle.ill_refusals.specs.Fault.{Fault, fault, ends_at, is_indefinite, past_end, cut_fault, element_fault, string_fault, is_deep}
use Rattle.ill_refusals.specs.code.Judge.{Judgement, faulty, closes, opens, reads, or_faulty, judge_end, judge_content, judge_size, judge_length, judge_form, judge_tag, judge_element, judge_mark, judge_octets, judge}
use Rattle.ill_refusals.specs.Next.{Due, element_of, due, missing}
use Rattle.ill_refusals.specs.Place.{Open, next_in, innermost_end, bound, allows}
use Rattle.ber_core.specs.Reading.{IdentifierRead, identified, part_identifier, no_identifier, read_identifier, LengthRead, definite, indefinite, part_length, no_length, read_length}

-- the octets end in a length, or in a primitive content that fits
abbrev pub IsLengthCut : Profile → List Open → Bool → List ℕ → Type 0
IsLengthCut p path f w =
    (read_length f w ≡ part_length)
    ⊎ ((n : ℕ) × (b : List ℕ) × (f ≡ false) × (read_length f w ≡ definite n b) × (length b < n) × (n ≤ bound p path))

-- where octets end that end too early
pub data IsCutShort (p : Profile) (path : List Open) (w : List ℕ) : Type 0 where
  in_mark : is_indefinite path ≡ true → w ≡ 0 ∷ [] → IsCutShort p path w
  in_identifier : read_identifier w ≡ part_identifier → IsCutShort p path w
  in_element : (tag : Tag) (f : Bool) (r : List ℕ) → read_identifier w ≡ identified tag f r → IsLengthCut p path f r → IsCutShort p path w

-- the input doesn't end too early, or this is the fault, and then this holds
abbrev IsCut : Type 0 → Fault → Judgement → Type 0
IsCut W cut (faulty f) = ((f ≡ cut) × W) ⊎ (f.cause ≡ Cause.Truncated → ⊥)
IsCut W cut _ = Unit {0}

map_cut : (V W : Type 0) (cut : Fault) (j : Judgement) → (V → W) → IsCut V cut j → IsCut W cut j
map_cut V W cut (faulty f) g (inl h) = inl (h.0, g h.1)
map_cut V W cut (faulty f) g (inr h) = inr h
map_cut V W cut (closes m) g h = tt
map_cut V W cut (opens tag e n end) g h = tt
map_cut V W cut (reads tag n content) g h = tt

pub leaf_cause : (c : LeafFault) → cause_of c ≡ Cause.Truncated → ⊥
leaf_cause LeafFault.BadBoolean e = cc
leaf_cause LeafFault.BadInteger e = cc
leaf_cause LeafFault.IntegerTooLong e = cc
leaf_cause LeafFault.BadText e = cc
leaf_cause LeafFault.BadDate e = cc
leaf_cause LeafFault.BadTime e = cc
leaf_cause LeafFault.BadNull e = cc
leaf_cause LeafFault.BadOid e = cc
leaf_cause LeafFault.BadBits e = cc

or_cut : (W : Type 0) (cut : Fault) (c : Option LeafFault) (at : ℕ) (j : Judgement) → IsCut W cut j → IsCut W cut (or_faulty c at j)
or_cut W cut None at j h = h
or_cut W cut (Some c) at j h = inr (leaf_cause c)

end_cut : (W : Type 0) (cut : Fault) (p : Profile) (path : List Open) (k m : ℕ) → IsCut W cut (judge_end p path k m)
end_cut W cut p [] k m = tt
end_cut W cut p (o ∷ path) k m = go (missing p (next_in p (o ∷ path)))
  where
    go : (x : Option PartId) → IsCut W cut (elim x as (λ _. Judgement) [
      | Some part ↦ faulty (fault (Cause.Missing part) k)
      | None ↦ or_faulty (string_fault p o.element o.trees) o.start (closes m)
    ])
    go (Some part) = inr (λ e. cc)
    go None = or_cut W cut (string_fault p o.element o.trees) o.start (closes m) tt

content_cut : (cut : Fault) (p : Profile) (e : Element) (tag : Tag) (k h n : ℕ) (w : List ℕ) → IsCut (length w < n) cut (judge_content p e tag k h cut n w)
content_cut cut p e tag k h n w = go (nat_lt (length w) n) refl
  where
    go : (b : Bool) → nat_lt (length w) n ≡ b → IsCut (length w < n) cut (if b then faulty cut else or_faulty (element_fault p e (take n w)) k (reads tag h (take n w)))
    go true q = inl (refl, ltb-true _ _ q)
    go false q = or_cut (length w < n) cut (element_fault p e (take n w)) k (reads tag h (take n w)) tt

past_cause : (path : List Open) → past_end path ≡ Cause.Truncated → ⊥
past_cause path = go (is_some (innermost_end path))
  where
    go : (b : Bool) → (if b then Cause.Overrun else Cause.TooLong) ≡ Cause.Truncated → ⊥
    go true e = cc
    go false e = cc

size_cut : (cut : Fault) (p : Profile) (path : List Open) (e : Element) (tag : Tag) (f : Bool) (k h n : ℕ) (w : List ℕ)
    → IsCut ((f ≡ false) × (length w < n) × (n ≤ bound p path)) cut (judge_size p path e tag f k h cut n w)
size_cut cut p path e tag f k h n w = go (nat_lt (bound p path) (k + h + n)) refl f
  where
    go : (b : Bool) → nat_lt (bound p path) (k + h + n) ≡ b → (f : Bool) → IsCut ((f ≡ false) × (length w < n) × (n ≤ bound p path)) cut
        (if b then faulty (fault (past_end path) k) else elim f as (λ _. Judgement) [ true ↦ opens tag e h (Some (k + h + n)) | false ↦ judge_content p e tag k h cut n w ])
    go true q f = inr (past_cause path)
    go false q true = tt
    go false q false = map_cut (length w < n) _ cut _ (λ l. (refl, l, let m = ltb-false _ _ q in omega arith)) (content_cut cut p e tag k h n w)

length_cut : (cut : Fault) (p : Profile) (path : List Open) (e : Element) (tag : Tag) (f : Bool) (k i : ℕ) (w : List ℕ)
    → IsCut (IsLengthCut p path f w) cut (judge_length p path e tag f k i cut w)
length_cut cut p path e tag f k i w = go (read_length f w) refl
  where
    go : (x : LengthRead) → read_length f w ≡ x → IsCut (IsLengthCut p path f w) cut (elim x as (λ _. Judgement) [
      | part_length ↦ faulty cut
      | no_length ↦ faulty (fault Cause.BadLength k)
      | indefinite rest ↦ opens tag e (i + (length w - length rest)) None
      | definite n rest ↦ judge_size p path e tag f k (i + (length w - length rest)) cut n rest
    ])
    go part_length q = inl (refl, inl q)
    go no_length q = inr (λ e. cc)
    go (indefinite rest) q = tt
    go (definite n rest) q =
        map_cut ((f ≡ false) × (length rest < n) × (n ≤ bound p path)) _ cut _ (λ h. inr (n, rest, h.0, q, h.1, h.2))
        (size_cut cut p path e tag f k (i + (length w - length rest)) n rest)

allowed_cut : (cut : Fault) (p : Profile) (path : List Open) (e : Element) (tag : Tag) (f : Bool) (k i : ℕ) (w : List ℕ) (b : Bool)
    → IsCut (IsLengthCut p path f w) cut (elim b as (λ _. Judgement) [ true ↦ judge_length p path e tag f k i cut w | false ↦ faulty (fault Cause.WrongForm k) ])
allowed_cut cut p path e tag f k i w true = length_cut cut p path e tag f k i w
allowed_cut cut p path e tag f k i w false = inr (λ e. cc)

form_cut : (cut : Fault) (p : Profile) (path : List Open) (e : Element) (tag : Tag) (f : Bool) (k i : ℕ) (w : List ℕ) → IsCut (IsLengthCut p path f w) cut (judge_form p path e tag f k i cut w)
form_cut cut p path (leaf l) tag f k i w = allowed_cut cut p path (leaf l) tag f k i w (allows (leaf l) f)
form_cut cut p path (sequence n) tag f k i w = allowed_cut cut p path (sequence n) tag f k i w (allows (sequence n) f)
form_cut cut p path (list n) tag f k i w = allowed_cut cut p path (list n) tag f k i w (allows (list n) f)
form_cut cut p path (wrapper c) tag f k i w = allowed_cut cut p path (wrapper c) tag f k i w (allows (wrapper c) f)
form_cut cut p path (loose_wrapper c) tag f k i w = allowed_cut cut p path (loose_wrapper c) tag f k i w (allows (loose_wrapper c) f)
form_cut cut p path (segment u) tag f k i w = length_cut cut p path (segment u) tag f k i w
form_cut cut p path (foreign n) tag f k i w = length_cut cut p path (foreign n) tag f k i w
form_cut cut p path (left_out x) tag f k i w = inr (λ e. cc)

tag_cut : (cut : Fault) (p : Profile) (path : List Open) (tag : Tag) (f : Bool) (k i : ℕ) (w : List ℕ)
    → IsCut (IsLengthCut p path f w) cut (judge_tag p path tag f k i cut w)
tag_cut cut p path tag f k i w = go (due p tag (next_in p path))
  where
    go : (x : Option Due) → IsCut (IsLengthCut p path f w) cut (elim x as (λ _. Judgement) [ None ↦ faulty (fault Cause.UnexpectedTag k) | Some d ↦ judge_form p path (element_of d) tag f k i cut w ])
    go None = inr (λ e. cc)
    go (Some d) = form_cut cut p path (element_of d) tag f k i w

element_cut : (cut : Fault) (p : Profile) (path : List Open) (k : ℕ) (w : List ℕ) → IsCut (IsCutShort p path w) cut (judge_element p path k cut w)
element_cut cut p path k w = go (read_identifier w) refl
  where
    deep : (b : Bool) (tag : Tag) (f : Bool) (r : List ℕ) → read_identifier w ≡ identified tag f r
        → IsCut (IsCutShort p path w) cut (if b then faulty (fault Cause.TooDeep k) else judge_tag p path tag f k (length w - length r) cut r)
    deep true tag f r q = inr (λ e. cc)
    deep false tag f r q = map_cut (IsLengthCut p path f r) _ cut _ (in_element tag f r q) (tag_cut cut p path tag f k (length w - length r) r)

    go : (x : IdentifierRead) → read_identifier w ≡ x → IsCut (IsCutShort p path w) cut (elim x as (λ _. Judgement) [
      | part_identifier ↦ faulty cut
      | no_identifier ↦ faulty (fault Cause.BadTag k)
      | identified tag constructed r ↦
          if is_deep p path then faulty (fault Cause.TooDeep k)
          else judge_tag p path tag constructed k (length w - length r) cut r
    ])
    go part_identifier q = inl (refl, in_identifier q)
    go no_identifier q = inr (λ e. cc)
    go (identified tag f r) q = deep (is_deep p path) tag f r q

mark_cut : (cut : Fault) (p : Profile) (path : List Open) (k : ℕ) (w : List ℕ) → IsCut (w ≡ []) cut (judge_mark p path k cut w)
mark_cut cut p path k [] = inl (refl, refl)
mark_cut cut p path k (a ∷ w) = go (nat_eq a 0)
  where
    go : (b : Bool) → IsCut (a ∷ w ≡ []) cut (elim b as (λ _. Judgement) [ true ↦ judge_end p path k 2 | false ↦ faulty (fault Cause.BadEnd k) ])
    go true = end_cut _ cut p path k 2
    go false = inr (λ e. cc)

octets_cut : (cut : Fault) (p : Profile) (path : List Open) (k : ℕ) (w : List ℕ) → IsCut (IsCutShort p path w) cut (judge_octets p path k cut w)
octets_cut cut p path k [] = inl (refl, in_identifier refl)
octets_cut cut p path k (a ∷ w) = go (is_indefinite path && nat_eq a 0) refl
  where
    go : (b : Bool) → is_indefinite path && nat_eq a 0 ≡ b
        → IsCut (IsCutShort p path (a ∷ w)) cut (elim b as (λ _. Judgement) [ true ↦ judge_mark p path k cut w | false ↦ judge_element p path k cut (a ∷ w) ])
    go true q =
        let b = and_parts (is_indefinite path) (nat_eq a 0) q in
        let n : nat_eq a 0 ≡ true = b.1 in
        let z : a ≡ 0 = grind (arith, n) in
        map_cut (w ≡ []) _ cut _ (λ e. in_mark b.0 (ap₂ ◌∷◌ z e)) (mark_cut cut p path k w)
    go false q = element_cut cut p path k (a ∷ w)

judge_cut : (p : Profile) (path : List Open) (k : ℕ) (rest : List ℕ) → IsCut (IsCutShort p path (take (bound p path - k) rest)) (cut_fault p path k rest) (judge p path k rest)
judge_cut p path k rest = go (ends_at path k)
  where
    go : (b : Bool) → IsCut (IsCutShort p path (take (bound p path - k) rest)) (cut_fault p path k rest) (elim b as (λ _. Judgement) [
      | true ↦ judge_end p path k 0
      | false ↦ judge_octets p path k (cut_fault p path k rest) (take (bound p path - k) rest)
    ])
    go true = end_cut _ (cut_fault p path k rest) p path k 0
    go false = octets_cut (cut_fault p path k rest) p path k (take (bound p path - k) rest)

-- an input that ends too early ends before the bound, and the fault is there
pub truncated_at : (p : Profile) (path : List Open) (k : ℕ) (rest : List ℕ) (f : Fault) → judge p path k rest ≡ faulty f → f.cause ≡ Cause.Truncated
    → (k + length rest < bound p path) × (f ≡ fault Cause.Truncated (k + length rest))
truncated_at p path k rest f e c = elim (subst (IsCut (IsCutShort p path (take (bound p path - k) rest)) (cut_fault p path k rest)) e (judge_cut p path k rest)) [
  | inr n ↦ absurd (n c)
  | inl same ↦ go (nat_le (bound p path - k) (length rest)) refl same.0
]
  where
    go : (b : Bool) → nat_le (bound p path - k) (length rest) ≡ b → f ≡ (if b then fault (past_end path) k else fault Cause.Truncated (k + length rest))
        → (k + length rest < bound p path) × (f ≡ fault Cause.Truncated (k + length rest))
    go true q s = absurd (past_cause path (ap (λ (x : Fault). x.cause) (sym s) ∙ c))
    go false q s = (grind (arith, q), s)

-- and in the midst of what is read there
pub truncated_in : (p : Profile) (path : List Open) (k : ℕ) (rest : List ℕ) (f : Fault) → judge p path k rest ≡ faulty f → f.cause ≡ Cause.Truncated → IsCutShort p path rest
truncated_in p path k rest f e c = elim (subst (IsCut (IsCutShort p path (take (bound p path - k) rest)) (cut_fault p path k rest)) e (judge_cut p path k rest)) [
  | inr n ↦ absurd (n c)
  | inl same ↦ let l = (truncated_at p path k rest f e c).0 in subst (IsCutShort p path) (take_all (bound p path - k) rest (omega arith)) same.1
]
