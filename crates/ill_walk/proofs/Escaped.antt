-- Texts in HTML.
use Rattle.std.proofs.Common.{◌≡◌, ◌∙◌, ◌==◌, ◌&&◌, ℕ, Bool, true, false, List, [], ◌∷◌, codes, flat_map, refl, ap₂}
use Rattle.std.specs.Prelude.{if◌then◌else◌}
use Rattle.std.specs.List.{list_all}
use Rattle.std.proofs.lemmas.List.Folds.{list_all-append}
use Rattle.ill_walk.specs.Markup.{escape, is_no_markup}

-- what stands for an octet, by which octet it is
one : (octet : ℕ) (a l g q s : Bool) → (octet == 60) ≡ l → (octet == 62) ≡ g → (octet == 34) ≡ q → (octet == 39) ≡ s
    → list_all is_no_markup (if a then codes "&amp;" else if l then codes "&lt;" else if g then codes "&gt;" else if q then codes "&quot;" else if s then codes "&#39;" else octet ∷ []) ≡ true
one octet true l g q s e f h k = refl
one octet false true g q s e f h k = refl
one octet false false true q s e f h k = refl
one octet false false false true s e f h k = refl
one octet false false false false true e f h k = refl
one octet false false false false false e f h k = rw (e, f, h, k) refl

pub no_markup : (octets : List ℕ) → list_all is_no_markup (flat_map escape octets) ≡ true
no_markup [] = refl
no_markup (octet ∷ octets) =
    list_all-append is_no_markup (escape octet) (flat_map escape octets)
    ∙ ap₂ (λ (x y : Bool). x && y) (one octet (octet == 38) (octet == 60) (octet == 62) (octet == 34) (octet == 39) refl refl refl refl) (no_markup octets)
