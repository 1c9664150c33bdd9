-- Lists of numbers that are octets.
use Rattle.std.proofs.Common.{◌≡◌, ℕ, suc, ◌<◌, true, List, [], ◌∷◌, get_or, nat_lt, IsTrue, refl, arith}
use Rattle.ber_tree.specs.Octets.{are_octets}

-- numbers below 256, one by one, are octets
pub octets_fit : (a : List ℕ) → ((i : ℕ) → get_or a i 0 < 256) → IsTrue (are_octets a)
octets_fit [] h = refl
octets_fit (x ∷ a) h = let l : x < 256 = h 0 in let q : nat_lt x 256 ≡ true = grind arith in rw q (octets_fit a (λ i. h (suc i)))
