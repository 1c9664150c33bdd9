-- A stream up to where nothing more is spelled.
use Rattle.std.proofs.Common.{◌≡◌, ◌⊎◌, ℕ, ◌<◌, ◌≤◌, List, [], ◌∷◌, ◌++◌, length, refl, ap, ◌∙◌, inl, inr, arith, append_assoc, length-append}
use Rattle.ill_schema.specs.Apdu.{Apdu, Accepts, IsStream}
use Rattle.ber_leaf.specs.Profile.{Profile}
use Rattle.ill_schema.proofs.Streams.{stream_fewer, parts_accept, accepts_some}

-- no front of the octets is spelled
abbrev pub IsOver : Profile → List ℕ → Type 0
IsOver p s = (a : Apdu) (n : ℕ) → Accepts p s a n → ⊥

pub nothing_over : (p : Profile) (s : List ℕ) → s ≡ [] → IsOver p s
nothing_over p s e a n h = accepts_some p s a n e h

pub stream_front : (p : Profile) (b t : List ℕ) (xs : List Apdu) → IsStream p b xs [] → IsStream p (b ++ t) xs t
stream_front p b t [] h = ap (λ l. l ++ t) h
stream_front p b t (x ∷ xs) h =
    (h.0, h.1 ++ t, ap (λ l. l ++ t) h.2 ∙ append_assoc h.0 h.1 t, h.3, stream_front p h.1 t xs h.4)

over_none : (p : Profile) (r t : List ℕ) (zs : List Apdu) → IsOver p r → IsStream p r zs t → length zs ≡ 0
over_none p r t [] over h = refl
over_none p r t (z ∷ zs) over h = absurd (over z (length h.0) (parts_accept p r z h.0 h.1 h.2 h.3))

total : (m n : ℕ) → (m ≤ n) ⊎ (n < m)
total m n = grind arith

-- no stream of the octets is longer than one that is over
pub no_longer : (p : Profile) (s r t : List ℕ) (xs ys : List Apdu) → IsStream p s xs r → IsOver p r → IsStream p s ys t → length ys ≤ length xs
no_longer p s r t xs ys h over k = elim (total (length xs) (length ys)) [
  | inl le ↦
      let more = stream_fewer p s r t xs ys h k le in
      let none : length more.0 ≡ 0 = over_none p r t more.0 over more.2 in
      let e : length ys ≡ length (xs ++ more.0) = ap length more.1 in
      omega (arith, length-append xs more.0)
  | inr lt ↦ omega arith
]

-- two streams of as many messages have one rest
pub one_rest : (p : Profile) (s r t : List ℕ) (xs ys : List Apdu) → IsStream p s xs r → IsStream p s ys t → length xs ≡ length ys → r ≡ t
one_rest p s r t xs ys h k e =
    let more = stream_fewer p s r t xs ys h k (omega arith) in
    let e' : length ys ≡ length (xs ++ more.0) = ap length more.1 in
    none r more.0 more.2 (omega (arith, length-append xs more.0))
  where
    none : (r : List ℕ) (zs : List Apdu) → IsStream p r zs t → length zs ≡ 0 → r ≡ t
    none r [] h e = h
    none r (z ∷ zs) h e = absurd (omega arith)
