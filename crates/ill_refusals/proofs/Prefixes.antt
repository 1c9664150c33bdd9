-- What octets appended to an input change, and what a message cut short is refused with.
use Rattle.std.proofs.Common.{◌≡◌, ◌≢◌, ◌⊎◌, ℕ, ◌+◌, ◌-◌, ◌<◌, ◌≤◌, Bool, true, false, ◌&&◌, List, [], ◌∷◌, ◌++◌, length, length-append, take, drop, Option, Some, None, IsTrue, refl, sym, ap, ap₂, subst, ◌∙◌, inl, inr, arith, if◌then◌else◌, ltb-false}
use Rattle.std.specs.Prelude.{nat_eq, nat_lt, nat_le}
use Rattle.std.proofs.Math.Seq.{take-append-add}
use Rattle.std.proofs.lemmas.List.{take-append-drop, take-append-le, drop-append-le, length-take-le, take_all}
use Rattle.ber_tree.specs.Identifier.{Tag}
use Rattle.ill_schema.specs.declared.refusal.Cause.{Cause}
use Rattle.ill_schema.specs.Apdu.{Apdu, Encodes, Accepts}
use Rattle.ill_refusals.proofs.FirstFault.{has_fault, is_judged}
use Rattle.ill_refusals.specs.Element.{Element, leaf, sequence, list, wrapper, loose_wrapper, segment, foreign, left_out}
use Rattle.ill_refusals.specs.Fault.{Fault, fault, ends_at, is_indefinite, past_end, cut_fault, fault_at, Refuses, is_deep}
use Rattle.ill_refusals.specs.code.Judge.{Judgement, faulty, opens, judge_end, judge_content, judge_size, judge_length, judge_form, judge_tag, judge_element, judge_mark, judge_octets, judge}
use Rattle.ber_tree.specs.Octets.{are_octets}
use Rattle.ill_refusals.specs.Next.{Due, element_of, due}
use Rattle.ill_refusals.specs.Outcome.{HasOneOutcome}
use Rattle.ill_refusals.specs.Place.{Open, next_in, bound, allows, IsPlace, IsDue}
use Rattle.ber_leaf.specs.Profile.{Profile}
use Rattle.ber_core.specs.Reading.{IdentifierRead, identified, part_identifier, no_identifier, read_identifier, LengthRead, definite, indefinite, part_length, no_length, read_length}
use Rattle.ill_refusals.proofs.OneOutcome.{encodes_no_fault, one_encoding, one_outcome}
use Rattle.ber_core.proofs.ReadOctets.{identifier_longer, no_identifier_longer, length_longer, indefinite_longer, no_length_longer, octets_left}
use Rattle.ber_tree.proofs.Lists.{two_cases}

abbrev truncated : ℕ → Fault
truncated at = fault Cause.Truncated at

-- the input ended too early for the first, or the second is the same
abbrev Longer : ℕ → Judgement → Judgement → Type 0
Longer at i j = (i ≡ faulty (truncated at)) ⊎ (j ≡ i)

same_size : (w r y : List ℕ) → length (w ++ y) - length (r ++ y) ≡ length w - length r
same_size w r y = omega (arith, length-append w y, length-append r y)

longer_content : (p : Profile) (e : Element) (tag : Tag) (k h at n : ℕ) (cut : Fault) (w y : List ℕ)
    → Longer at (judge_content p e tag k h (truncated at) n w) (judge_content p e tag k h cut n (w ++ y))
longer_content p e tag k h at n cut w y = elim (two_cases (nat_lt (length w) n)) [
  | inl i ↦ inl (rw i refl)
  | inr i ↦
      let le : n ≤ length w = ltb-false _ _ i in
      let j : nat_lt (length (w ++ y)) n ≡ false = grind (arith, length-append w y) in
      inr (rw (i, j, take-append-le n w y le) refl)
]

longer_size : (p : Profile) (path : List Open) (e : Element) (tag : Tag) (f : Bool) (k h at n : ℕ) (cut : Fault) (w y : List ℕ)
    → Longer at (judge_size p path e tag f k h (truncated at) n w) (judge_size p path e tag f k h cut n (w ++ y))
longer_size p path e tag f k h at n cut w y = go (nat_lt (bound p path) (k + h + n)) f
  where
    go : (b f : Bool) → Longer at
        (if b then faulty (fault (past_end path) k) else elim f as (λ _. Judgement) [ true ↦ opens tag e h (Some (k + h + n)) | false ↦ judge_content p e tag k h (truncated at) n w ])
        (if b then faulty (fault (past_end path) k) else elim f as (λ _. Judgement) [ true ↦ opens tag e h (Some (k + h + n)) | false ↦ judge_content p e tag k h cut n (w ++ y) ])
    go true f = inr refl
    go false true = inr refl
    go false false = longer_content p e tag k h at n cut w y

abbrev length_body : Profile → List Open → Element → Tag → Bool → ℕ → ℕ → Fault → List ℕ → LengthRead → Judgement
length_body p path e tag f k i cut w r = elim r as (λ _. Judgement) [
  | part_length ↦ faulty cut
  | no_length ↦ faulty (fault Cause.BadLength k)
  | indefinite rest ↦ opens tag e (i + (length w - length rest)) None
  | definite n rest ↦ judge_size p path e tag f k (i + (length w - length rest)) cut n rest
]

longer_length : (p : Profile) (path : List Open) (e : Element) (tag : Tag) (f : Bool) (k i at : ℕ) (cut : Fault) (w y : List ℕ)
    → Longer at (judge_length p path e tag f k i (truncated at) w) (judge_length p path e tag f k i cut (w ++ y))
longer_length p path e tag f k i at cut w y = go (read_length f w) refl
  where
    go : (x : LengthRead) → read_length f w ≡ x → Longer at (length_body p path e tag f k i (truncated at) w x) (judge_length p path e tag f k i cut (w ++ y))
    go part_length q = inl refl
    go no_length q = inr (ap (length_body p path e tag f k i cut (w ++ y)) (no_length_longer f w y q))
    go (indefinite r) q =
        inr (ap (length_body p path e tag f k i cut (w ++ y)) (indefinite_longer f w y r q) ∙ ap (λ n. opens tag e (i + n) None) (same_size w r y))
    go (definite n r) q =
        let s : judge_length p path e tag f k i cut (w ++ y) ≡ judge_size p path e tag f k (i + (length w - length r)) cut n (r ++ y) =
        ap (length_body p path e tag f k i cut (w ++ y)) (length_longer f w y n r q) ∙ ap (λ m. judge_size p path e tag f k (i + m) cut n (r ++ y)) (same_size w r y) in
        subst (Longer at (judge_size p path e tag f k (i + (length w - length r)) (truncated at) n r)) (sym s) (longer_size p path e tag f k (i + (length w - length r)) at n cut r y)

longer_allowed : (at k : ℕ) (i j : Judgement) (b : Bool) → Longer at i j
    → Longer at (elim b as (λ _. Judgement) [ true ↦ i | false ↦ faulty (fault Cause.WrongForm k) ]) (elim b as (λ _. Judgement) [ true ↦ j | false ↦ faulty (fault Cause.WrongForm k) ])
longer_allowed at k i j true h = h
longer_allowed at k i j false h = inr refl

longer_form : (p : Profile) (path : List Open) (e : Element) (tag : Tag) (f : Bool) (k i at : ℕ) (cut : Fault) (w y : List ℕ)
    → Longer at (judge_form p path e tag f k i (truncated at) w) (judge_form p path e tag f k i cut (w ++ y))
longer_form p path (leaf l) tag f k i at cut w y = longer_allowed at k _ _ (allows (leaf l) f) (longer_length p path (leaf l) tag f k i at cut w y)
longer_form p path (sequence n) tag f k i at cut w y = longer_allowed at k _ _ (allows (sequence n) f) (longer_length p path (sequence n) tag f k i at cut w y)
longer_form p path (list n) tag f k i at cut w y = longer_allowed at k _ _ (allows (list n) f) (longer_length p path (list n) tag f k i at cut w y)
longer_form p path (wrapper c) tag f k i at cut w y = longer_allowed at k _ _ (allows (wrapper c) f) (longer_length p path (wrapper c) tag f k i at cut w y)
longer_form p path (loose_wrapper c) tag f k i at cut w y = longer_allowed at k _ _ (allows (loose_wrapper c) f) (longer_length p path (loose_wrapper c) tag f k i at cut w y)
longer_form p path (segment u) tag f k i at cut w y = longer_length p path (segment u) tag f k i at cut w y
longer_form p path (foreign n) tag f k i at cut w y = longer_length p path (foreign n) tag f k i at cut w y
longer_form p path (left_out x) tag f k i at cut w y = inr refl

longer_tag : (p : Profile) (path : List Open) (tag : Tag) (f : Bool) (k i at : ℕ) (cut : Fault) (w y : List ℕ)
    → Longer at (judge_tag p path tag f k i (truncated at) w) (judge_tag p path tag f k i cut (w ++ y))
longer_tag p path tag f k i at cut w y = go (due p tag (next_in p path))
  where
    go : (x : Option Due) → Longer at
        (elim x as (λ _. Judgement) [ None ↦ faulty (fault Cause.UnexpectedTag k) | Some d ↦ judge_form p path (element_of d) tag f k i (truncated at) w ])
        (elim x as (λ _. Judgement) [ None ↦ faulty (fault Cause.UnexpectedTag k) | Some d ↦ judge_form p path (element_of d) tag f k i cut (w ++ y) ])
    go None = inr refl
    go (Some d) = longer_form p path (element_of d) tag f k i at cut w y

abbrev element_body : Profile → List Open → ℕ → Fault → List ℕ → IdentifierRead → Judgement
element_body p path k cut w x = elim x as (λ _. Judgement) [
  | part_identifier ↦ faulty cut
  | no_identifier ↦ faulty (fault Cause.BadTag k)
  | identified tag constructed rest ↦
      if is_deep p path then faulty (fault Cause.TooDeep k)
      else judge_tag p path tag constructed k (length w - length rest) cut rest
]

longer_if : (at : ℕ) (g : Judgement) (i j : Judgement) (b : Bool) → Longer at i j → Longer at (if b then g else i) (if b then g else j)
longer_if at g i j true h = inr refl
longer_if at g i j false h = h

longer_element : (p : Profile) (path : List Open) (k at : ℕ) (cut : Fault) (w y : List ℕ) → Longer at (judge_element p path k (truncated at) w) (judge_element p path k cut (w ++ y))
longer_element p path k at cut w y = go (read_identifier w) refl
  where
    go : (x : IdentifierRead) → read_identifier w ≡ x → Longer at (element_body p path k (truncated at) w x) (judge_element p path k cut (w ++ y))
    go part_identifier q = inl refl
    go no_identifier q = inr (ap (element_body p path k cut (w ++ y)) (no_identifier_longer w y q))
    go (identified tag f r) q =
        let s : judge_element p path k cut (w ++ y) ≡ (if is_deep p path then faulty (fault Cause.TooDeep k) else judge_tag p path tag f k (length w - length r) cut (r ++ y)) =
        ap (element_body p path k cut (w ++ y)) (identifier_longer w y tag f r q)
        ∙ ap (λ (m : ℕ). if is_deep p path then faulty (fault Cause.TooDeep k) else judge_tag p path tag f k m cut (r ++ y)) (same_size w r y) in
        subst (Longer at (element_body p path k (truncated at) w (identified tag f r))) (sym s)
        (longer_if at (faulty (fault Cause.TooDeep k)) _ _ (is_deep p path) (longer_tag p path tag f k (length w - length r) at cut r y))

longer_mark : (p : Profile) (path : List Open) (k at : ℕ) (cut : Fault) (w y : List ℕ) → Longer at (judge_mark p path k (truncated at) w) (judge_mark p path k cut (w ++ y))
longer_mark p path k at cut [] y = inl refl
longer_mark p path k at cut (a ∷ w) y = inr refl

longer_octets : (p : Profile) (path : List Open) (k at : ℕ) (cut : Fault) (w y : List ℕ) → Longer at (judge_octets p path k (truncated at) w) (judge_octets p path k cut (w ++ y))
longer_octets p path k at cut [] y = inl refl
longer_octets p path k at cut (a ∷ w) y = go (is_indefinite path && nat_eq a 0)
  where
    go : (b : Bool) → Longer at
        (elim b as (λ _. Judgement) [ true ↦ judge_mark p path k (truncated at) w | false ↦ judge_element p path k (truncated at) (a ∷ w) ])
        (elim b as (λ _. Judgement) [ true ↦ judge_mark p path k cut (w ++ y) | false ↦ judge_element p path k cut (a ∷ (w ++ y)) ])
    go true = longer_mark p path k at cut w y
    go false = longer_element p path k at cut (a ∷ w) y

not_more : (a b : ℕ) → a ≤ b → nat_le a b ≡ true
not_more a b h = grind arith

more_is : (a b : ℕ) → nat_le a b ≡ false → b ≤ a
more_is a b h = grind arith

at_most_is : (a b : ℕ) → nat_le a b ≡ true → a ≤ b
at_most_is a b h = grind arith

longer_within : (p : Profile) (path : List Open) (k : ℕ) (w x : List ℕ) (m : ℕ) → m ≡ bound p path - k
    → Longer (k + length w) (judge_octets p path k (cut_fault p path k w) (take m w)) (judge_octets p path k (cut_fault p path k (w ++ x)) (take m (w ++ x)))
longer_within p path k w x m e = elim (two_cases (nat_le (bound p path - k) (length w))) [
  | inl i ↦
      let le : bound p path - k ≤ length w = at_most_is _ _ i in
      let j : nat_le (bound p path - k) (length (w ++ x)) ≡ true = not_more _ _ (omega (arith, length-append w x)) in
      let a : cut_fault p path k w ≡ fault (past_end path) k = ap (λ (b : Bool). if b then fault (past_end path) k else truncated (k + length w)) i in
      let b : cut_fault p path k (w ++ x) ≡ fault (past_end path) k = ap (λ (b : Bool). if b then fault (past_end path) k else truncated (k + length (w ++ x))) j in
      inr (ap₂ (judge_octets p path k) (b ∙ sym a) (take-append-le m w x (omega arith)))
  | inr i ↦
      let le : length w ≤ bound p path - k = more_is _ _ i in
      let a : cut_fault p path k w ≡ truncated (k + length w) = ap (λ (b : Bool). if b then fault (past_end path) k else truncated (k + length w)) i in
      let t : take m w ≡ w = take_all m w (omega arith) in
      let n : length w + (m - length w) ≡ m = omega arith in
      let u : take m (w ++ x) ≡ w ++ take (m - length w) x = ap (λ z. take z (w ++ x)) (sym n) ∙ take-append-add w x (m - length w) in
      let r = longer_octets p path k (k + length w) (cut_fault p path k (w ++ x)) w (take (m - length w) x) in
      subst (λ z. Longer (k + length w) z (judge_octets p path k (cut_fault p path k (w ++ x)) (take m (w ++ x)))) (sym (ap₂ (judge_octets p path k) a t))
      (subst (λ z. Longer (k + length w) (judge_octets p path k (truncated (k + length w)) w) (judge_octets p path k (cut_fault p path k (w ++ x)) z)) (sym u) r)
]

-- what is judged stays where octets are appended, unless the input ended too early
pub longer : (p : Profile) (path : List Open) (k : ℕ) (w x : List ℕ) → Longer (k + length w) (judge p path k w) (judge p path k (w ++ x))
longer p path k w x = go (ends_at path k)
  where
    go : (b : Bool) → Longer (k + length w)
        (elim b as (λ _. Judgement) [ true ↦ judge_end p path k 0 | false ↦ judge_octets p path k (cut_fault p path k w) (take (bound p path - k) w) ])
        (elim b as (λ _. Judgement) [ true ↦ judge_end p path k 0 | false ↦ judge_octets p path k (cut_fault p path k (w ++ x)) (take (bound p path - k) (w ++ x)) ])
    go true = inr refl
    go false = longer_within p path k w x (bound p path - k) refl

-- a fault where the input ended too early, or one that stays
fault_longer : (p : Profile) (s x : List ℕ) (path : List Open) (k : ℕ) (f : Fault) → IsDue p s k path → fault_at p path k (drop k s) ≡ Some f
    → (f ≡ truncated (length s)) ⊎ (IsDue p (s ++ x) k path × (fault_at p path k (drop k (s ++ x)) ≡ Some f))
fault_longer p s x path k f h e = elim (longer p path k (drop k s) x) [
  | inl i ↦
      let q : Some f ≡ Some (truncated (k + length (drop k s))) = sym e ∙ has_fault p path k (drop k s) _ i in
      let r : f ≡ truncated (k + length (drop k s)) = cc in
      let le = h.0 in
      inl (r ∙ ap truncated (omega (arith, ap length (take-append-drop k s), length-append (take k s) (drop k s), length-take-le k s le)))
  | inr i ↦
      let le = h.0 in
      inr (
        (omega (arith, length-append s x), subst (λ z. IsPlace p z path) (sym (take-append-le k s x le)) h.1),
        ap (λ z. fault_at p path k z) (drop-append-le k s x le) ∙ has_fault p path k (drop k s ++ x) f (i ∙ is_judged p path k (drop k s) f e),
      )
]

-- a refusal with another cause than Truncated stays
pub refusal_stays : (p : Profile) (s x : List ℕ) (f : Fault) → f.cause ≢ Cause.Truncated → Refuses p s f → Refuses p (s ++ x) f
refusal_stays p s x f n (inl h) = elim (fault_longer p s x h.0 h.1 f h.2 h.3) [
  | inl i ↦ absurd (n (ap (λ (g : Fault). g.cause) i))
  | inr i ↦ inl (h.0, h.1, i.0, i.1)
]
refusal_stays p s x f n (inr h) =
    let le = h.1.2 in
    inr (h.0, (h.1.0, h.1.1, omega (arith, length-append s x), subst (λ z. Encodes p h.1.0 z) (sym (take-append-le h.1.1 s x le)) h.1.3, h.1.4))

take-take : (m n : ℕ) (s : List ℕ) → m ≤ n → n ≤ length s → take m (take n s) ≡ take m s
take-take m n s h k =
    sym (take-append-le m (take n s) (drop n s) (omega (arith, length-take-le n s k))) ∙ ap (take m) (take-append-drop n s)

-- a message that is cut short is refused with Truncated at its size
pub prefix_truncated : (p : Profile) (s : List ℕ) (a : Apdu) (m n : ℕ) → IsTrue (are_octets s) → Accepts p s a n → m < n → Refuses p (take m s) (fault Cause.Truncated m)
prefix_truncated p s a m n ok h lt = outcome (one_outcome p t (octets_left t (drop m s) (subst (λ z. IsTrue (are_octets z)) (sym (take-append-drop m s)) ok)))
  where
    t : List ℕ
    t = take m s

    whole : take m s ++ drop m s ≡ s
    whole = take-append-drop m s

    no_message : (b : Apdu) (j : ℕ) → j ≤ length (take m s) → Encodes p b (take j (take m s)) → ⊥
    no_message b j le e =
        let l : length (take m s) ≡ m = let x = h.0 in length-take-le m s (omega arith) in
        let x = h.0 in
        let q = one_encoding p s b a j n (omega arith) h.0 (subst (Encodes p b) (take-take j m s (omega arith) (omega arith)) e) h.1.encodes in
        let r = q.1 in
        omega arith

    outcome : HasOneOutcome p (take m s) → Refuses p (take m s) (fault Cause.Truncated m)
    outcome (inl x) = absurd (no_message x.0 x.1 x.2.0.0 x.2.0.1.encodes)
    outcome (inr (f, r)) = elim r.0 [
      | inl y ↦ elim (fault_longer p (take m s) (drop m s) y.0 y.1 f y.2 y.3) [
        | inl i ↦
            let z = h.0 in
            let l : length (take m s) ≡ m = length-take-le m s (omega arith) in
            subst (Refuses p (take m s)) (i ∙ ap truncated l) r.0
        | inr i ↦ absurd (encodes_no_fault p s a n y.0 y.1 f h.0 h.1.encodes (subst (λ z. IsDue p z y.1 y.0) whole i.0) (subst (λ z. fault_at p y.0 y.1 (drop y.1 z) ≡ Some f) whole i.1))
      ]
      | inr y ↦ absurd (no_message y.1.0 y.1.1 y.1.2 y.1.3)
    ]
