-- One end is found in octets.
use Rattle.std.proofs.Common.{◌≡◌, ℕ, ◌<◌, ◌≤◌, List, length, take, sym, subst, arith, inl, inr}
use Rattle.std.proofs.lemmas.Bool.{cases_lt}
use Rattle.ber_framing.specs.declared.framer.Framing.{Framing}
use Rattle.ber_framing.specs.declared.framer.Framer.{Framer}
use Rattle.ber_framing.specs.Framed.{IsPartOfFrame}
use Rattle.ber_framing.specs.Framer.{IsFed, HasFraming}
use Rattle.ber_framing.proofs.Frames.{one_judgment}

no_later : (xs : List ℕ) (m n : ℕ) (f : Framer) → n ≤ length xs → IsFed f (take m xs) → ((k : ℕ) → k < n → IsPartOfFrame (take k xs))
    → ((b : List ℕ) → IsFed f b → IsPartOfFrame b → m ≡ length xs) → m < n → ⊥
no_later xs m n f le fed within all lt = let end = all (take m xs) fed (within m lt) in omega (arith, end)

pub ends_once : (xs : List ℕ) (m n : ℕ) (f g : Framer) → m ≤ length xs → n ≤ length xs → IsFed f (take m xs) → IsFed g (take n xs)
    → ((k : ℕ) → k < m → IsPartOfFrame (take k xs)) → ((k : ℕ) → k < n → IsPartOfFrame (take k xs))
    → ((b : List ℕ) → IsFed f b → IsPartOfFrame b → m ≡ length xs) → ((b : List ℕ) → IsFed g b → IsPartOfFrame b → n ≡ length xs) → m ≡ n
ends_once xs m n f g le le' fed fed' within within' all all' = elim (cases_lt m n) [
  | inl lt ↦ absurd (no_later xs m n f le' fed within' all lt)
  | inr ge ↦ elim (cases_lt n m) [
    | inl lt ↦ absurd (no_later xs n m g le fed' within all' lt)
    | inr ge' ↦ omega arith
  ]
]

pub judged_once : (xs : List ℕ) (m n : ℕ) (r s : Framing) → m ≡ n → HasFraming (take m xs) r → HasFraming (take n xs) s → r ≡ s
judged_once xs m n r s e h k = one_judgment (take m xs) r s h (subst (λ (i : ℕ). HasFraming (take i xs) s) (sym e) k)
