-- What an octet does to the octets that finish an element: lengths.
use Rattle.std.proofs.Common.{◌≡◌, ◌⊎◌, ◌↔◌, ℕ, zero, suc, ◌+◌, ◌*◌, ◌^◌, ◌<◌, ◌≤◌, Bool, true, false, List, [], ◌∷◌, ◌++◌, length, refl, sym, ap, subst, ◌∙◌, arith, inl, inr, true≢false, lit<, IsTrue, nat_eq, eqb-true}
use Rattle.std.specs.Int.Digits.{AllBelowBase, number_from_digits, number_from_digits_after}
use Rattle.std.proofs.Math.Nat.{pow-succ', mul-le-mul_right, mul-le-mul_left, pow-le-pow_right}
use Rattle.ber_tree.specs.Length.{IsLength, short, long}
use Rattle.ber_tree.proofs.Lists.{cells}
use Rattle.ber_framing.specs.Framer.{Closes, IsContentsThen, IsLongThen, IsLengthThen, definite, indefinite}

module _ (f : Bool) (marks deep o : ℕ) (x : List ℕ) where
  short_parts : (n : ℕ) (octets rest : List ℕ) → o ≤ 127 → IsLength n octets → IsContentsThen n marks deep rest → o ∷ x ≡ octets ++ rest → IsContentsThen o marks deep x
  short_parts n octets rest le (short h) c e =
      let p = cells e in subst (λ (k : ℕ). IsContentsThen k marks deep x) (sym p.0) (subst (λ z. IsContentsThen n marks deep z) (sym p.1) c)
  short_parts n octets rest le (long _ _ _ _) c e = let p = cells e in absurd (omega (arith, p.0))

  short_then : o ≤ 127 → IsLengthThen f marks deep (o ∷ x) → IsContentsThen o marks deep x
  short_then le (definite {octets = os} {rest = r} n l _ c e) = short_parts n os r le l c e
  short_then le (indefinite inner _ _ _ e) = let p = cells e in absurd (omega (arith, p.0))

  pub short_length : o ≤ 127 → IsLengthThen f marks deep (o ∷ x) ↔ IsContentsThen o marks deep x
  short_length le = (short_then le, λ h. definite o (short le) (omega arith) h refl)

  -- no length begins with 80 or FF
  no_length : (n : ℕ) (octets rest : List ℕ) → (o ≡ 128) ⊎ (o ≡ 255) → IsLength n octets → o ∷ x ≡ octets ++ rest → ⊥
  no_length n octets rest q (short h) e = let p = cells e in omega (arith, p.0, q)
  no_length n octets rest q (long h k _ _) e = let p = cells e in omega (arith, p.0, q)

  opened : o ≡ 128 → IsLengthThen f marks deep (o ∷ x) → (inner : ℕ) × (f ≡ true) × (deep ≡ suc inner) × Closes (suc marks) inner x
  opened z (definite {octets = os} {rest = r} n l _ c e) = absurd (no_length n os r (inl z) l e)
  opened z (indefinite inner g d c e) = (inner, g, d, subst (λ w. Closes (suc marks) inner w) (sym ((cells e).1)) c)

  pub no_indefinite : o ≡ 128 → (f ≡ false) ⊎ (deep ≡ 0) → IsLengthThen f marks deep (o ∷ x) → ⊥
  no_indefinite z q h =
      let p = opened z h in
      elim q [ inl k ↦ true≢false (sym p.1 ∙ k) | inr k ↦ omega (arith, p.2, k) ]

  pub no_reserved : o ≡ 255 → IsLengthThen f marks deep (o ∷ x) → ⊥
  no_reserved z (definite {octets = os} {rest = r} n l _ c e) = no_length n os r (inr z) l e
  no_reserved z (indefinite inner _ _ _ e) = let p = cells e in omega (arith, p.0, z)

  pub indefinite_length : (m d : ℕ) → o ≡ 128 → f ≡ true → m ≡ suc marks → deep ≡ suc d → IsLengthThen f marks deep (o ∷ x) ↔ Closes m d x
  indefinite_length m d z g p q = (
    (λ h.
        let k = opened z h in
        let same : k.0 ≡ d = omega (arith, k.2, q) in
        subst (λ (i : ℕ). Closes i d x) (sym p) (subst (λ (i : ℕ). Closes (suc marks) i x) same k.3)),
    (λ h. indefinite d g q (subst (λ (i : ℕ). Closes i d x) p h) (ap (λ (i : ℕ). i ∷ x) z)),
  )

  long_parts : (missing_len n : ℕ) (octets rest : List ℕ) → 128 < o → o ≡ 128 + missing_len → n ≤ 4_294_967_294 → IsLength n octets → IsContentsThen n marks deep rest → o ∷ x ≡ octets ++ rest
      → IsLongThen missing_len 0 marks deep x
  long_parts missing_len n octets rest lt e le (short h) c j = let p = cells j in absurd (omega (arith, p.0))
  long_parts missing_len n octets rest lt e le (long {octets = os} _ _ b v) c j =
      let p = cells j in
      record {
        octets = os;
        rest = rest;
        size = omega (arith, p.0, e);
        small = b;
        fits = omega (arith, le, v);
        contents = subst (λ (k : ℕ). IsContentsThen k marks deep rest) v c;
        joined = p.1;
      }

  long_then : (missing_len : ℕ) → 128 < o → o ≡ 128 + missing_len → IsLengthThen f marks deep (o ∷ x) → IsLongThen missing_len 0 marks deep x
  long_then missing_len lt e (definite {octets = os} {rest = r} n l le c j) = long_parts missing_len n os r lt e le l c j
  long_then missing_len lt e (indefinite inner _ _ _ j) = let p = cells j in absurd (omega (arith, p.0))

  pub long_length : (missing_len : ℕ) → 128 < o → o < 255 → o ≡ 128 + missing_len → IsLengthThen f marks deep (o ∷ x) ↔ IsLongThen missing_len 0 marks deep x
  long_length missing_len lt less e = (
    long_then missing_len lt e,
    (λ h. definite (number_from_digits 256 h.octets) (long (omega (arith, h.size)) (omega (arith, h.size)) h.small refl) h.fits h.contents
        (ap (λ (k : ℕ). k ∷ x) (e ∙ ap (λ (k : ℕ). 128 + k) (sym h.size)) ∙ ap (λ z. (128 + length h.octets) ∷ z) h.joined)),
  )

module _ (marks deep o : ℕ) (x : List ℕ) where
  long_octet : (missing_len value : ℕ) (octets rest : List ℕ) → length octets ≡ suc missing_len → AllBelowBase 256 octets → number_from_digits_after 256 value octets ≤ 4_294_967_294
      → IsContentsThen (number_from_digits_after 256 value octets) marks deep rest → o ∷ x ≡ octets ++ rest → IsLongThen missing_len (value * 256 + o) marks deep x
  long_octet missing_len value [] rest size b fits c j = absurd (omega (arith, size))
  long_octet missing_len value (d ∷ ds) rest size b fits c j =
      let p = cells j in
      let same : d ≡ o = sym p.0 in
      let value_is : value * 256 + d ≡ value * 256 + o = ap (λ (k : ℕ). value * 256 + k) same in
      record {
        octets = ds;
        rest = rest;
        size = omega (arith, size);
        small = b.1;
        fits = subst (λ (k : ℕ). number_from_digits_after 256 k ds ≤ 4_294_967_294) value_is fits;
        contents = subst (λ (k : ℕ). IsContentsThen (number_from_digits_after 256 k ds) marks deep rest) value_is c;
        joined = p.1;
      }

  long_more : (missing_len value : ℕ) → o < 256 → IsLongThen (suc missing_len) value marks deep (o ∷ x) ↔ IsLongThen missing_len (value * 256 + o) marks deep x
  long_more missing_len value lt = (
    (λ h. long_octet missing_len value h.octets h.rest h.size h.small h.fits h.contents h.joined),
    (λ h. record {
      octets = o ∷ h.octets;
      rest = h.rest;
      size = omega (arith, h.size);
      small = (lt, h.small);
      fits = h.fits;
      contents = h.contents;
      joined = ap (λ z. o ∷ z) h.joined;
    }),
  )

  pub long_next : (missing_len value rest next : ℕ) → o < 256 → missing_len ≡ suc rest → next ≡ value * 256 + o → IsLongThen missing_len value marks deep (o ∷ x) ↔ IsLongThen rest next marks deep x
  long_next missing_len value rest next lt p q =
      subst (λ (k : ℕ). IsLongThen k value marks deep (o ∷ x) ↔ IsLongThen rest next marks deep x) (sym p)
      (subst (λ (k : ℕ). IsLongThen (suc rest) value marks deep (o ∷ x) ↔ IsLongThen rest k marks deep x) (sym q) (long_more rest value lt))

last_parts : (value marks deep : ℕ) (octets rest x : List ℕ) → length octets ≡ 0 → IsContentsThen (number_from_digits_after 256 value octets) marks deep rest → x ≡ octets ++ rest
    → IsContentsThen value marks deep x
last_parts value marks deep [] rest x size c j = subst (λ z. IsContentsThen value marks deep z) (sym j) c
last_parts value marks deep (o ∷ os) rest x size c j = absurd (omega (arith, size))

-- after the last octet of a length
pub long_end : (missing_len value marks deep : ℕ) (x : List ℕ) → missing_len ≡ 0 → value ≤ 4_294_967_294 → IsLongThen missing_len value marks deep x ↔ IsContentsThen value marks deep x
long_end missing_len value marks deep x z le = (
  (λ h. last_parts value marks deep h.octets h.rest x (h.size ∙ z) h.contents h.joined),
  (λ h. record { octets = []; rest = x; size = sym z; small = tt; fits = le; contents = h; joined = refl }),
)

-- more octets make a length no smaller
after_least : (value : ℕ) (octets : List ℕ) → value * 256 ^ length octets ≤ number_from_digits_after 256 value octets
after_least value [] = omega arith
after_least value (d ∷ ds) =
    let more : (value * 256) * 256 ^ length ds ≤ (value * 256 + d) * 256 ^ length ds = mul-le-mul_right (256 ^ length ds) (omega arith) in
    let power : 256 ^ suc (length ds) ≡ 256 * 256 ^ length ds = pow-succ' 256 (length ds) in
    omega (arith, more, after_least (value * 256 + d) ds, ap (λ (k : ℕ). value * k) power)

pub too_long : (missing_len value marks deep : ℕ) (x : List ℕ) → (value * 256 ^ missing_len ≤ 4_294_967_294 → ⊥) → IsLongThen missing_len value marks deep x → ⊥
too_long missing_len value marks deep x more h =
    more (subst (λ (k : ℕ). value * 256 ^ k ≤ 4_294_967_294) h.size (omega (arith, after_least value h.octets, h.fits)))

-- a length that fits has further octets below it that fit
pub long_small : (value missing_len : ℕ) → 0 < missing_len → value * 256 ^ missing_len ≤ 4_294_967_294 → value * 256 ≤ 4_294_967_294
long_small value missing_len some fits =
    let power : 256 ^ 1 ≤ 256 ^ missing_len = pow-le-pow_right (lit< tt) some in
    omega (arith, fits, mul-le-mul_left value power)

none_fits : (value missing_len : ℕ) → 4 ≤ missing_len → value * 256 ^ missing_len ≤ 4_294_967_294 → nat_eq value 0 ≡ true
none_fits zero missing_len four h = refl
none_fits (suc value) missing_len four h =
    let power : 256 ^ 4 ≤ 256 ^ missing_len = pow-le-pow_right (lit< tt) four in
    let large : 256 ^ missing_len ≤ suc value * 256 ^ missing_len = omega arith in
    absurd (omega (arith, power, large, h))

pub fits_none : (value missing_len : ℕ) → 4 ≤ missing_len → IsTrue (nat_eq value 0) ↔ (value * 256 ^ missing_len ≤ 4_294_967_294)
fits_none value missing_len four = (
  (λ t. subst (λ (k : ℕ). k * 256 ^ missing_len ≤ 4_294_967_294) (sym (eqb-true value 0 t)) (omega arith)),
  none_fits value missing_len four,
)
