use Rattle.std.proofs.Common.{◌≡◌, ℕ, suc, ◌-◌, ◌<◌, List, [], ◌∷◌, length, get_or, set, refl, ap, arith}
use Rattle.ber_leaf.specs.Leaf.{cleared, cleared_last}
use Rattle.ber_leaf.specs.Bits.{cleared_content}
use Rattle.ber_leaf.proofs.bit_string.clear_unused.Goals as goal

last_set : (u a : ℕ) (o : List ℕ) → set (a ∷ o) (length o) (cleared u (get_or (a ∷ o) (length o) 0)) ≡ cleared_last u (a ∷ o)
last_set u a [] = refl
last_set u a (b ∷ o) = ap (λ (o : List ℕ). a ∷ o) (last_set u b o)

set_last : (o : List ℕ) (x : ℕ) → 0 < length o - 1 → x ≡ cleared (get_or o 0 0) (get_or o (length o - 1) 0) → set o (length o - 1) x ≡ cleared_content o
set_last [] x l e = absurd (omega (arith, l))
set_last (u ∷ []) x l e = absurd (omega (arith, l))
set_last (u ∷ a ∷ o) x l e =
    let n : length (u ∷ a ∷ o) - 1 ≡ suc (length o) = omega arith in
    rw e (rw n (ap (λ (o : List ℕ). u ∷ o) (last_set u a o)))

pub returns-then-last-gt0 : goal.returns-then-last-gt0
returns-then-last-gt0 c = set_last c.args.content.now c.cleared.result c.if-last-gt0.true c.cleared.ensures
