-- Octets that a source shows before they are taken.
use Rattle.std.proofs.Common.{◌≡◌, ℕ, zero, suc, ◌+◌, ◌<◌, ◌≤◌, List, [], ◌∷◌, ◌++◌, length, take, drop, Option, Some, None, sym, ap, ◌∙◌, refl, arith}
use Rattle.std.specs.Prelude.{IfSome}
use Rattle.std.specs.Io.KnownBytes.{Consumes, IsAtEnd, Keeps}
use Rattle.std.proofs.lemmas.List.{drop-drop, length-drop, take-append-drop, take-take}
use Rattle.ber_core.specs.Shown.{Drops}

-- one octet more
after_drop : (s ys given : List ℕ) (i n : ℕ) → i < length s → n ≤ 1 → length given ≡ 1 → drop i s ≡ take n given ++ ys → (n ≡ 0 → 0 < length given → ys ≡ []) → Some ys ≡ Some (drop (i + 1) s)
after_drop s ys [] i n le most one taken end = absurd (omega (arith, one))
after_drop s ys (x ∷ given) i zero le most one taken end = absurd (omega (arith, ap length (taken ∙ end refl (omega arith)), length-drop i s, le))
after_drop s ys (x ∷ given) i (suc zero) le most one taken end = ap Some (sym (ap (drop 1) taken) ∙ drop-drop 1 i s)
after_drop s ys given i (suc (suc n)) le most one taken end = absurd (omega (arith, most))

pub drops_more : (left now next : Option (List ℕ)) (given : List ℕ) (i n count : ℕ) → Drops left now i → IfSome left (λ s. count ≤ length s) → i < count → n ≤ 1 → length given ≡ 1
    → Consumes now next (take n given) → (n ≡ 0 → 0 < length given → IsAtEnd next) → Drops left next (i + 1)
drops_more None now next given i n count d le lt most one taken end = tt
drops_more (Some s) None next given i n count d le lt most one taken end = let e : None ≡ Some (drop i s) = d in cc
drops_more (Some s) (Some xs) None given i n count d le lt most one taken end = absurd taken
drops_more (Some s) (Some xs) (Some ys) given i n count d le lt most one taken end =
    let e : xs ≡ drop i s = cc in after_drop s ys given i n (omega (arith, le, lt)) most one (sym e ∙ taken) end

pub drops_kept : (left now next : Option (List ℕ)) (i : ℕ) → Drops left now i → Keeps now next → Drops left next i
drops_kept None now next i d keeps = tt
drops_kept (Some s) None next i d keeps = let e : None ≡ Some (drop i s) = d in cc
drops_kept (Some s) (Some xs) None i d keeps = absurd keeps
drops_kept (Some s) (Some xs) (Some ys) i d keeps = ap Some keeps ∙ d

-- the first octets that are shown are those that are taken
pub drops_shown : (left left' : Option (List ℕ)) (hand : List ℕ) (n : ℕ) → IfSome left (λ s. take (length hand) s ≡ hand) → n ≤ length hand → Drops left left' n → Consumes left left' (take n hand)
drops_shown None left' hand n shown le d = tt
drops_shown (Some s) None hand n shown le d = let e : None ≡ Some (drop n s) = d in cc
drops_shown (Some s) (Some ys) hand n shown le d =
    let e : ys ≡ drop n s = cc in
    let front : take n hand ≡ take n s = ap (take n) (sym shown) ∙ take-take n (length hand) s le in
    sym (take-append-drop n s) ∙ ap (λ z. take n s ++ z) (sym e) ∙ ap (λ z. z ++ ys) (sym front)
