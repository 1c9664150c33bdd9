-- The first name of a list.
use Rattle.std.proofs.Common.{◌≡◌, ℕ, suc, ◌+◌, ◌-◌, ◌<◌, ◌≤◌, ◌==◌, false, List, ◌∷◌, ◌++◌, length, take, drop, get_or, drop-cons, length-drop, add-one, sym, ap, ◌∙◌, arith}
use Rattle.std.proofs.lemmas.List.{take-append-drop, take_all}
use Rattle.ill_files.specs.code.Listed.{names_in}
use Rattle.ill_inputs.specs.Parts.{has_end}
use Rattle.ill_inputs.proofs.PartEnds.{last_part, part_ended}

pub ended_name : (list : List ℕ) (i : ℕ) → i < length list → get_or list i 0 ≡ 0 → has_end 0 (take i list) ≡ false
    → names_in list ≡ take i list ∷ names_in (take (length list - (i + 1)) (drop (i + 1) list))
ended_name list i lt at h =
    let here : drop i list ≡ 0 ∷ drop (i + 1) list = rw add-one (drop-cons list i 0 lt ∙ ap (λ (x : ℕ). x ∷ drop (suc i) list) at) in
    let split : list ≡ take i list ++ 0 ∷ drop (i + 1) list = sym (take-append-drop i list) ∙ ap (λ l. take i list ++ l) here in
    let tail : take (length list - (i + 1)) (drop (i + 1) list) ≡ drop (i + 1) list = take_all (length list - (i + 1)) (drop (i + 1) list) (omega (arith, length-drop (i + 1) list)) in
    ap names_in split ∙ part_ended 0 (take i list) (drop (i + 1) list) h ∙ ap (λ l. take i list ∷ names_in l) (sym tail)

pub last_name : (list : List ℕ) (i : ℕ) → 0 < length list → length list ≤ i → has_end 0 (take i list) ≡ false
    → names_in list ≡ list ∷ names_in (take (length list - length list) (drop (length list) list))
last_name list i some past h =
    let none : length list - length list ≡ 0 = omega arith in
    let whole : has_end 0 list ≡ false = ap (has_end 0) (sym (take_all i list past)) ∙ h in
    last_part 0 list some whole ∙ ap (λ (n : ℕ). list ∷ names_in (take n (drop (length list) list))) (sym none)

pub is_some : (n : ℕ) → (n == 0) ≡ false → 0 < n
is_some n h = grind (arith, h)
