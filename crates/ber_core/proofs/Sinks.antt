-- What is put into a sink piece by piece.
use Rattle.std.proofs.Common.{ℕ, ◌+◌, ◌-◌, ◌≤◌, List, length, take, drop, Option, sym, subst, arith, length-take}
use Rattle.std.specs.Io.KnownBytes.{Appends}
use Rattle.std.proofs.KnownBytes.{Appends-trans}
use lib.Seq.{take-add, take-take}

-- at most n octets are taken from those that are left
pub left_over : (xs : List ℕ) (at n : ℕ) → at ≤ length xs → n ≤ length (take (length xs - at) (drop at xs)) → at + n ≤ length xs
left_over xs at n le h = omega (arith, length-take (length xs - at) (drop at xs))

-- the next octets of a list are put after the first ones
pub sends_step : (reported now after : Option (List ℕ)) (xs : List ℕ) (at n : ℕ) → n ≤ length (take (length xs - at) (drop at xs)) → Appends reported now (take at xs)
    → Appends now after (take n (take (length xs - at) (drop at xs))) → Appends reported after (take (at + n) xs)
sends_step reported now after xs at n le h k =
    subst (λ z. Appends reported after z) (sym (take-add at n xs)) (Appends-trans reported now after (take at xs) (take n (drop at xs)) h
    (subst (λ z. Appends now after z) (take-take n (length xs - at) (drop at xs) (omega (arith, le, length-take (length xs - at) (drop at xs)))) k))
