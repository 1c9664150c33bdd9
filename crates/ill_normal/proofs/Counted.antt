-- Numbers that are counted up to a greatest one.
use Rattle.std.proofs.Common.{◌≡◌, ℕ, ◌+◌, ◌≤◌, Bool, true, false, sym, ap, ◌∙◌, arith, inl, inr}
use Rattle.std.proofs.Math.Nat.{min-eq_left, min-eq_right}
use Rattle.std.proofs.lemmas.Bool.{cases_lt}
use Rattle.ill_normal.specs.Messages.{counted, one_if}

pub one_bound : (b : Bool) → one_if b ≤ 1
one_bound true = omega arith
one_bound false = omega arith

pub counted_left : (a n : ℕ) → counted (counted a + n) ≡ counted (a + n)
counted_left a n = elim (cases_lt a 18_446_744_073_709_551_615) [
  | inl lt ↦ ap (λ (k : ℕ). counted (k + n)) (min-eq_left (omega (arith, lt)))
  | inr ge ↦
      let most : counted a ≡ 18_446_744_073_709_551_615 = min-eq_right (omega (arith, ge)) in
      min-eq_right (omega (arith, most)) ∙ sym (min-eq_right (omega (arith, ge)))
]

pub counted_right : (a n : ℕ) → counted (a + counted n) ≡ counted (a + n)
counted_right a n =
    let e : a + counted n ≡ counted n + a = omega arith in
    let f : n + a ≡ a + n = omega arith in
    ap counted e ∙ counted_left n a ∙ ap counted f
