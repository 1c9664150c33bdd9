use Rattle.std.proofs.Common.{◌≡◌, ℕ, ◌+◌, ◌*◌, Bool, true, ◌&&◌, List, [], ◌∷◌, length, get_or, ap, sym, ◌∙◌, arith, rules}
use Rattle.std.specs.List.{list_all}
use Rattle.ber_leaf.specs.Leaf.{is_day, is_civil_day, is_digit, two_digits}
use Rattle.ber_leaf.proofs.text.date.is_day.Goals as goal

by_parts : (o : List ℕ) (year month day : ℕ) → length o ≡ 8 → list_all is_digit o ≡ true
    → year ≡ 100 * two_digits (get_or o 0 0) (get_or o 1 0) + two_digits (get_or o 2 0) (get_or o 3 0)
    → month ≡ two_digits (get_or o 4 0) (get_or o 5 0) → day ≡ two_digits (get_or o 6 0) (get_or o 7 0)
    → is_civil_day year month day ≡ is_day o
by_parts (a ∷ b ∷ c ∷ d ∷ e ∷ f ∷ g ∷ h ∷ []) year month day l ok y m n =
    ap (λ (x : ℕ). is_civil_day x month day) y
    ∙ ap (λ (x : ℕ). is_civil_day (100 * two_digits a b + two_digits c d) x day) m
    ∙ ap (λ (x : ℕ). is_civil_day (100 * two_digits a b + two_digits c d) (two_digits e f) x) n
    ∙ sym (ap (λ (x : Bool). x && is_civil_day (100 * two_digits a b + two_digits c d) (two_digits e f) (two_digits g h)) ok)
by_parts _ year month day l ok y m n = absurd (omega (arith, l))

pub returns : goal.returns
returns c =
    c.is_civil_day.ensures
    ∙ by_parts c.args.octets.now (100 * c.from.result + c.from-2.result) c.pair-3.result c.pair-4.result (omega arith) (search rules)
    (omega (arith, c.from.ensures, c.from-2.ensures, c.pair.ensures.value, c.pair-2.ensures.value)) c.pair-3.ensures.value c.pair-4.ensures.value
