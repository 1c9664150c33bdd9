-- Octets that are moved to the front of the memory that they have.
use Rattle.std.proofs.Common.{◌≡◌, ◌≤◌, ◌+◌, ◌-◌, ℕ, List, length, drop, take, sym, ap, ◌∙◌, arith}
use Rattle.std.specs.List.{copy_within}
use Rattle.std.proofs.Math.Seq.{paste}
use Rattle.std.proofs.lemmas.List.{length-drop, take_all}
use Rattle.std.proofs.lemmas.List.Edits.{take-paste}

-- what comes after n octets, once it was moved to the front
pub moved_front : (all : List ℕ) (n len size : ℕ) → n ≤ length all → len ≡ length all → size ≡ len - n → take size (copy_within all n len 0) ≡ drop n all
moved_front all n len size le e is =
    let put = drop n all in
    let k : len - n ≡ size = sym is in
    let none : 0 + size ≡ size = omega arith in
    let fits : size ≤ length put = omega (arith, length-drop n all, e, is, le) in
    let whole : length put ≤ size = omega (arith, length-drop n all, e, is, le) in
    ap (λ m. take size (paste all 0 put m)) k ∙ ap (λ m. take m (paste all 0 put size)) (sym none)
    ∙ take-paste all 0 put size (omega arith) fits ∙ take_all size put whole
