-- The fewest octets that spell a length, put one by one from the last on.
use Rattle.std.proofs.Common.{◌≡◌, ℕ, ◌+◌, ◌-◌, ◌<◌, ◌≤◌, ◌/◌, ◌%◌, List, [], ◌∷◌, ◌++◌, length, drop, set, sym, ap, ◌∙◌, arith, append_assoc}
use Rattle.std.proofs.lemmas.List.{drop-set, drop_all}
use Rattle.std.proofs.lemmas.Int.Digits.{digits_of_step, length-digits_of_step}
use Rattle.std.specs.Int.Digits.{digits_of}
use Rattle.ber_tree.specs.Length.{shortest_length}
use Rattle.ber_core.proofs.Shortest.{is_short}

-- a length of one octet
pub one_octet : (room : List ℕ) (n : ℕ) → length room ≡ 9 → n < 128 → drop 8 (set room 8 n) ≡ shortest_length n
one_octet room n e h =
    let nine : 8 < length room = omega (arith, e) in
    drop-set room 8 n nine ∙ ap (λ rest. n ∷ rest) (drop_all 9 room (omega (arith, e))) ∙ sym (is_short n h)

-- one digit more
pub one_digit : (room : List ℕ) (n rest at : ℕ) → digits_of 256 n ≡ digits_of 256 rest ++ drop at room → 0 < rest → 0 < at → at ≤ length room
    → digits_of 256 n ≡ digits_of 256 (rest / 256) ++ drop (at - 1) (set room (at - 1) (rest % 256))
one_digit room n rest at e some begun within =
    let put : drop (at - 1) (set room (at - 1) (rest % 256)) ≡ rest % 256 ∷ drop (at - 1 + 1) room = drop-set room (at - 1) (rest % 256) (omega (arith, begun, within)) in
    let same : at - 1 + 1 ≡ at = omega (arith, begun) in
    e ∙ ap (λ ds. ds ++ drop at room) (digits_of_step 256 rest (omega arith) some) ∙ append_assoc (digits_of 256 (rest / 256)) (rest % 256 ∷ []) (drop at room)
    ∙ sym (ap (λ z. digits_of 256 (rest / 256) ++ z) (put ∙ ap (λ k. rest % 256 ∷ drop k room) same))

-- fewer are left
pub one_fewer : (rest at : ℕ) → 0 < rest → length (digits_of 256 rest) < at → length (digits_of 256 (rest / 256)) < at - 1
one_fewer rest at some h = omega (arith, length-digits_of_step 256 rest (omega arith) some)
