-- What an octet does to the octets that finish an element: identifiers, end marks and contents.
use Rattle.std.proofs.Common.{◌≡◌, ◌≢◌, ◌⊎◌, ◌↔◌, ℕ, suc, ◌+◌, ◌-◌, ◌%◌, ◌<◌, ◌≤◌, Bool, true, List, [], ◌∷◌, ◌++◌, length, refl, sym, ap, ap₂, subst, ◌∙◌, arith, append_assoc, length-append, inl, inr}
use Rattle.ber_tree.specs.Length.{IsLength}
use Rattle.ber_tree.proofs.Lists.{cells}
use Rattle.ber_framing.specs.Framed.{is_constructed, IsTagNumber, last, more, IsIdentifier, low, high, IsFramed, definite, indefinite, AreFramed, none, next}
use Rattle.ber_framing.specs.Framer.{Closes, IsElementThen, IsContentsThen, IsLengthThen, IsNumberThen, IsMarkThen}
use Rattle.ber_framing.specs.Framer as then

-- an identifier, and then a length and what it says
pub record IsIdentifierThen (marks deep : ℕ) (x : List ℕ) : Type 0 where
  pub form : Bool
  pub id : List ℕ
  pub rest : List ℕ
  pub is_id : IsIdentifier form id
  pub length_then : IsLengthThen form marks deep rest
  pub joined : x ≡ id ++ rest

four : (a b c d : List ℕ) → (a ++ (b ++ c)) ++ d ≡ a ++ (b ++ (c ++ d))
four a b c d = simp append_assoc

marked : (a c d : List ℕ) → (a ++ (128 ∷ (c ++ 0 ∷ 0 ∷ []))) ++ d ≡ a ++ (128 ∷ (c ++ 0 ∷ 0 ∷ d))
marked a c d = simp append_assoc

element_parts : (marks deep : ℕ) (x element rest : List ℕ) → IsFramed deep element → Closes marks deep rest → x ≡ element ++ rest → IsIdentifierThen marks deep x
element_parts marks deep x element rest (definite {form = f} {id = id} {octets = os} contents i l le e) c j = record {
  form = f;
  id = id;
  rest = os ++ (contents ++ rest);
  is_id = i;
  length_then = then.definite (length contents) l le (record { contents = contents; rest = rest; size = refl; closes = c; joined = refl }) refl;
  joined = j ∙ ap (λ z. z ++ rest) e ∙ four id os contents rest;
}
element_parts marks deep x element rest (indefinite {deep = inner} {id = id} {contents = contents} i a e) c j = record {
  form = true;
  id = id;
  rest = 128 ∷ (contents ++ 0 ∷ 0 ∷ rest);
  is_id = i;
  length_then = then.indefinite inner refl refl (contents, rest, a, c, refl) refl;
  joined = j ∙ ap (λ z. z ++ rest) e ∙ marked id contents rest;
}

element_of : (marks deep : ℕ) (form : Bool) (x id y : List ℕ) → IsIdentifier form id → IsLengthThen form marks deep y → x ≡ id ++ y → IsElementThen marks deep x
element_of marks deep form x id y i (then.definite {octets = os} {rest = z} n l le c e) j = record {
  element = id ++ (os ++ c.contents);
  rest = c.rest;
  framed = definite c.contents i (subst (λ (k : ℕ). IsLength k os) (sym c.size) l) (omega (arith, c.size)) refl;
  closes = c.closes;
  joined = j ∙ ap (λ w. id ++ w) e ∙ ap (λ w. id ++ (os ++ w)) c.joined ∙ sym (four id os c.contents c.rest);
}
element_of marks deep form x id y i (then.indefinite {rest = z} inner f d c e) j = record {
  element = id ++ (128 ∷ (c.0 ++ 0 ∷ 0 ∷ []));
  rest = c.1;
  framed = subst (λ (k : ℕ). IsFramed k (id ++ (128 ∷ (c.0 ++ 0 ∷ 0 ∷ [])))) (sym d) (indefinite (subst (λ (b : Bool). IsIdentifier b id) f i) c.2 refl);
  closes = subst (λ (k : ℕ). Closes marks k c.1) (sym d) c.3;
  joined = j ∙ ap (λ w. id ++ w) e ∙ ap (λ w. id ++ (128 ∷ w)) c.4 ∙ sym (marked id c.0 c.1);
}

pub element_then : (marks deep : ℕ) (x : List ℕ) → IsElementThen marks deep x ↔ IsIdentifierThen marks deep x
element_then marks deep x = (
  (λ h. element_parts marks deep x h.element h.rest h.framed h.closes h.joined),
  (λ h. element_of marks deep h.form x h.id h.rest h.is_id h.length_then h.joined),
)

-- no identifier begins with 00
id_first : (form : Bool) (id y x : List ℕ) (o : ℕ) → IsIdentifier form id → o ∷ x ≡ id ++ y → o ≢ 0
id_first form id y x o (low h _ _) e = λ z. h (sym ((cells e).0) ∙ z)
id_first form id y x o (high h _ _) e = λ z. let f = cells e in omega (arith, f.0, h)

module _ (marks deep o : ℕ) (x : List ℕ) where
  pub zero_first : o ≡ 0 → IsElementThen marks deep (o ∷ x) → ⊥
  zero_first z h = let i = (element_then marks deep (o ∷ x)).0 h in id_first i.form i.id i.rest x o i.is_id i.joined z

  low_parts : (form : Bool) (id y : List ℕ) → o % 32 ≢ 31 → IsIdentifier form id → IsLengthThen form marks deep y → o ∷ x ≡ id ++ y
      → IsLengthThen (is_constructed o) marks deep x
  low_parts form id y n (low _ _ f) l j =
      let c = cells j in
      subst (λ (b : Bool). IsLengthThen b marks deep x) (f ∙ ap is_constructed (sym c.0)) (subst (λ z. IsLengthThen form marks deep z) (sym c.1) l)
  low_parts form id y n (high m _ _) l j = let c = cells j in absurd (n (ap (λ (k : ℕ). k % 32) c.0 ∙ m))

  pub low_first : o ≢ 0 → o % 32 ≢ 31 → IsElementThen marks deep (o ∷ x) ↔ IsLengthThen (is_constructed o) marks deep x
  low_first z n = (
    (λ h. let i = (element_then marks deep (o ∷ x)).0 h in low_parts i.form i.id i.rest n i.is_id i.length_then i.joined),
    (λ h. element_of marks deep (is_constructed o) (o ∷ x) (o ∷ []) x (low z n refl) h refl),
  )

  high_parts : (form : Bool) (id y : List ℕ) → o % 32 ≡ 31 → IsIdentifier form id → IsLengthThen form marks deep y → o ∷ x ≡ id ++ y
      → IsNumberThen (is_constructed o) marks deep x
  high_parts form id y n (low _ m _) l j = let c = cells j in absurd (m (ap (λ (k : ℕ). k % 32) (sym c.0) ∙ n))
  high_parts form id y n (high {number = number} _ f k) l j =
      let c = cells j in
      record {
        number = number;
        rest = y;
        is_number = k;
        length_then = subst (λ (b : Bool). IsLengthThen b marks deep y) (f ∙ ap is_constructed (sym c.0)) l;
        joined = c.1;
      }

  pub high_first : o % 32 ≡ 31 → IsElementThen marks deep (o ∷ x) ↔ IsNumberThen (is_constructed o) marks deep x
  high_first n = (
    (λ h. let i = (element_then marks deep (o ∷ x)).0 h in high_parts i.form i.id i.rest n i.is_id i.length_then i.joined),
    (λ h. element_of marks deep (is_constructed o) (o ∷ x) (o ∷ h.number) h.rest (high n refl h.is_number) h.length_then (ap (λ z. o ∷ z) h.joined)),
  )

  number_parts : (f : Bool) (number rest : List ℕ) → 128 ≤ o → IsTagNumber number → IsLengthThen f marks deep rest → o ∷ x ≡ number ++ rest → IsNumberThen f marks deep x
  number_parts f number rest le (last h) l j = let c = cells j in absurd (omega (arith, c.0, h))
  number_parts f number rest le (more {rest = n} _ k) l j = record { number = n; rest = rest; is_number = k; length_then = l; joined = (cells j).1 }

  pub number_more : (f : Bool) → 128 ≤ o → IsNumberThen f marks deep (o ∷ x) ↔ IsNumberThen f marks deep x
  number_more f le = (
    (λ h. number_parts f h.number h.rest le h.is_number h.length_then h.joined),
    (λ h. record { number = o ∷ h.number; rest = h.rest; is_number = more le h.is_number; length_then = h.length_then; joined = ap (λ z. o ∷ z) h.joined }),
  )

  number_ends : (f : Bool) (number rest : List ℕ) → o < 128 → IsTagNumber number → IsLengthThen f marks deep rest → o ∷ x ≡ number ++ rest → IsLengthThen f marks deep x
  number_ends f number rest lt (last h) l j = subst (λ z. IsLengthThen f marks deep z) (sym ((cells j).1)) l
  number_ends f number rest lt (more h _) l j = let c = cells j in absurd (omega (arith, c.0, h))

  pub number_last : (f : Bool) → o < 128 → IsNumberThen f marks deep (o ∷ x) ↔ IsLengthThen f marks deep x
  number_last f lt = (
    (λ h. number_ends f h.number h.rest lt h.is_number h.length_then h.joined),
    (λ h. record { number = o ∷ []; rest = x; is_number = last lt; length_then = h; joined = refl }),
  )

  pub mark_last : o ≡ 0 → IsMarkThen marks deep (o ∷ x) ↔ Closes marks deep x
  mark_last z = (
    (λ h. subst (λ w. Closes marks deep w) (sym ((cells h.joined).1)) h.closes),
    (λ h. record { rest = x; closes = h; joined = ap (λ (k : ℕ). k ∷ x) z }),
  )

  pub no_mark : o ≢ 0 → IsMarkThen marks deep (o ∷ x) → ⊥
  no_mark n h = n ((cells h.joined).0)

-- elements begin like the first of them
first_of_all : (deep : ℕ) (contents y x : List ℕ) (o : ℕ) → AreFramed deep contents → o ∷ x ≡ contents ++ 0 ∷ 0 ∷ y
    → ((o ≡ 0) × (x ≡ 0 ∷ y)) ⊎ ((element : List ℕ) × (rest : List ℕ) × IsFramed deep element × AreFramed deep rest × (contents ≡ element ++ rest))
first_of_all deep contents y x o none e = inl ((cells e).0, (cells e).1)
first_of_all deep contents y x o (next {x = a} {y = b} f r j) e = inr (a, b, f, r, j)

-- no element begins with 00
pub begins : (deep : ℕ) (element y x : List ℕ) (o : ℕ) → IsFramed deep element → o ∷ x ≡ element ++ y → o ≢ 0
begins deep element y x o (definite {form = f} {id = id} {octets = os} contents i _ _ e) j = id_first f id _ x o i (j ∙ ap (λ z. z ++ y) e ∙ four id os contents y)
begins deep element y x o (indefinite {id = id} {contents = contents} i _ e) j = id_first true id _ x o i (j ∙ ap (λ z. z ++ y) e ∙ marked id contents y)

module _ (marks deep o : ℕ) (x : List ℕ) where
  mark_parts : o ≡ 0 → Closes (suc marks) deep (o ∷ x) → IsMarkThen marks (suc deep) x
  mark_parts z h = elim (first_of_all deep h.0 h.1 x o h.2 h.4) [
    | inl s ↦ record { rest = h.1; closes = h.3; joined = s.1 }
    | inr s ↦ absurd (begins deep s.0 (s.1 ++ 0 ∷ 0 ∷ h.1) x o s.2 (h.4 ∙ ap (λ w. w ++ 0 ∷ 0 ∷ h.1) s.4 ∙ append_assoc s.0 s.1 (0 ∷ 0 ∷ h.1)) z)
  ]

  mark_begun : o ≡ 0 → Closes (suc marks) deep (o ∷ x) ↔ IsMarkThen marks (suc deep) x
  mark_begun z = (mark_parts z, λ h. ([], h.rest, none, h.closes, ap (λ w. o ∷ w) h.joined ∙ ap (λ (k : ℕ). k ∷ 0 ∷ h.rest) z))

  next_parts : o ≢ 0 → Closes (suc marks) deep (o ∷ x) → IsElementThen (suc marks) deep (o ∷ x)
  next_parts n h = elim (first_of_all deep h.0 h.1 x o h.2 h.4) [
    | inl s ↦ absurd (n s.0)
    | inr s ↦ record {
      element = s.0;
      rest = s.1 ++ 0 ∷ 0 ∷ h.1;
      framed = s.2;
      closes = (s.1, h.1, s.3, h.3, refl);
      joined = h.4 ∙ ap (λ w. w ++ 0 ∷ 0 ∷ h.1) s.4 ∙ append_assoc s.0 s.1 (0 ∷ 0 ∷ h.1);
    }
  ]

  pub next_element : o ≢ 0 → Closes (suc marks) deep (o ∷ x) ↔ IsElementThen (suc marks) deep (o ∷ x)
  next_element n = (
    next_parts n,
    λ h. let c = h.closes in (
      h.element ++ c.0,
      c.1,
      next h.framed c.2 refl,
      c.3,
      h.joined ∙ ap (λ w. h.element ++ w) c.4 ∙ sym (append_assoc h.element c.0 (0 ∷ 0 ∷ c.1)),
    ),
  )

-- the same, where a mark less is to come, and an element more may be open
pub mark_first : (m k d e o : ℕ) → m ≡ suc k → e ≡ suc d → o ≡ 0 → (x : List ℕ) → Closes m d (o ∷ x) ↔ IsMarkThen k e x
mark_first m k d e o p q z x =
    subst (λ (n : ℕ). Closes n d (o ∷ x) ↔ IsMarkThen k e x) (sym p) (subst (λ (n : ℕ). Closes (suc k) d (o ∷ x) ↔ IsMarkThen k n x) (sym q) (mark_begun k d o x z))

pub another_first : (m k d o : ℕ) → m ≡ suc k → o ≢ 0 → (x : List ℕ) → Closes m d (o ∷ x) ↔ IsElementThen m d (o ∷ x)
another_first m k d o p n x = subst (λ (i : ℕ). Closes i d (o ∷ x) ↔ IsElementThen i d (o ∷ x)) (sym p) (next_element k d o x n)

pub none_first : (m d o : ℕ) → m ≡ 0 → (x : List ℕ) → Closes m d (o ∷ x) → ⊥
none_first m d o z x h = let none : o ∷ x ≡ [] = subst (λ (n : ℕ). Closes n d (o ∷ x)) z h in cc

-- contents that begin with some octets
pub front_of : (w c x r : List ℕ) → length w ≤ length c → w ++ x ≡ c ++ r → (t : List ℕ) × (c ≡ w ++ t) × (x ≡ t ++ r)
front_of [] c x r le e = (c, refl, e)
front_of (o ∷ w) [] x r le e = absurd (omega (arith, le))
front_of (o ∷ w) (p ∷ c) x r le e =
    let f = cells e in
    let t = front_of w c x r (omega (arith, le)) f.1 in
    (t.0, ap₂ (λ (k : ℕ) (l : List ℕ). k ∷ l) (sym f.0) t.1, t.2)

pub contents_more : (missing_len marks deep : ℕ) (w x : List ℕ) → length w ≤ missing_len → IsContentsThen missing_len marks deep (w ++ x) ↔ IsContentsThen (missing_len - length w) marks deep x
contents_more missing_len marks deep w x le = (
  (λ h.
      let t = front_of w h.contents x h.rest (omega (arith, le, h.size)) h.joined in
      let size : length h.contents ≡ length w + length t.0 = ap length t.1 ∙ length-append w t.0 in
      record { contents = t.0; rest = h.rest; size = omega (arith, size, h.size); closes = h.closes; joined = t.2 }),
  (λ h. record {
    contents = w ++ h.contents;
    rest = h.rest;
    size = length-append w h.contents ∙ omega (arith, le, h.size);
    closes = h.closes;
    joined = ap (λ z. w ++ z) h.joined ∙ sym (append_assoc w h.contents h.rest);
  }),
)

no_contents : (contents rest x : List ℕ) → length contents ≡ 0 → x ≡ contents ++ rest → rest ≡ x
no_contents [] rest x z e = sym e
no_contents (o ∷ os) rest x z e = absurd (omega (arith, z))

pub contents_end : (missing_len marks deep : ℕ) (x : List ℕ) → missing_len ≡ 0 → IsContentsThen missing_len marks deep x ↔ Closes marks deep x
contents_end missing_len marks deep x z = (
  (λ h. subst (λ w. Closes marks deep w) (no_contents h.contents h.rest x (h.size ∙ z) h.joined) h.closes),
  (λ h. record { contents = []; rest = x; size = sym z; closes = h; joined = refl }),
)
