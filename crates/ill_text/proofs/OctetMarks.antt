-- Marks that are octets, and the text that is put of them.
use Rattle.std.proofs.Common.{◌≡◌, ℕ, ◌+◌, ◌<◌, true, false, List, [], ◌∷◌, ◌++◌, codes, append_assoc, length, take, map, refl, ap, ◌∙◌, arith, get_or, sym}
use Rattle.std.specs.Prelude.{flat_map}
use Rattle.std.specs.List.{list_all}
use Rattle.std.proofs.lemmas.List.Concat.{flat_map-append}
use Rattle.ber_leaf.specs.Profile.{is_graphic}
use Rattle.ill_grammar.specs.declared.outline.Mark.{Mark}
use Rattle.ill_grammar.specs.declared.outline.Mark.TheVariants as mark
use Rattle.ill_schema.specs.Texts.{hexadecimal}
use Rattle.ill_text.specs.Shown.{content_text, line, quoted}
use Rattle.ill_grammar.specs.Marks.{leading_octets, octets_in}
use Rattle.ill_grammar.proofs.MarkedValues.{mark_step}

-- what is put of each octet, one octet further
pub octets_step : (f : ℕ → List ℕ) (xs : List Mark) (i : ℕ) (d : Mark) → i < length xs
    → flat_map f (octets_in (take (i + 1) xs)) ≡ flat_map f (octets_in (take i xs)) ++ flat_map f (octets_in (get_or xs i d ∷ []))
octets_step f xs i d h = ap (flat_map f) (mark_step xs i d h) ∙ flat_map-append f (octets_in (take i xs)) (octets_in (get_or xs i d ∷ []))

-- the marks that come first are those of their octets
pub front_marks : (ms : List Mark) → take (leading_octets ms) ms ≡ map mark.Octet (octets_in (take (leading_octets ms) ms))
front_marks [] = refl
front_marks (mark.Octet a ∷ ms) = ap (λ x. mark.Octet a ∷ x) (front_marks ms)
front_marks (_ ∷ ms) = refl

pub front_all : (o : List ℕ) → octets_in (take (leading_octets (map mark.Octet o)) (map mark.Octet o)) ≡ o
front_all [] = refl
front_all (a ∷ o) = ap (λ x. a ∷ x) (front_all o)

pub front_are : (ms : List Mark) (n : ℕ) → n ≡ leading_octets ms → take n ms ≡ map mark.Octet (octets_in (take n ms))
front_are ms n e = ap (λ k. take k ms) e ∙ front_marks ms ∙ ap (λ k. map mark.Octet (octets_in (take k ms))) (sym e)

pub no_octets : (octets : List ℕ) (ms : List Mark) → ms ≡ map mark.Octet octets → length ms ≡ 0 → octets ≡ []
no_octets [] ms e n = refl
no_octets (a ∷ octets) ms e n = absurd (omega (arith, ap length e, n))

pub first_octet : (octets : List ℕ) (first : Mark) (rest : List Mark) → map mark.Octet octets ≡ first ∷ rest
    → (a : ℕ) × (o : List ℕ) × (octets ≡ a ∷ o) × (first ≡ mark.Octet a) × (rest ≡ map mark.Octet o)
first_octet [] first rest e = absurd cc
first_octet (a ∷ o) first rest e = (a, o, refl, cc, cc)

-- ---- their text

-- what is not printable is put in hexadecimal
pub content_hexadecimal : (octets : List ℕ) → list_all is_graphic octets ≡ false → hexadecimal octets ≡ content_text octets
content_hexadecimal octets e = rw e refl

pub content_quoted : (octets : List ℕ) → list_all is_graphic octets ≡ true → quoted octets ≡ content_text octets
content_quoted octets e = rw e refl

-- a line whose text begins with what is put beside the equals sign
pub line_opened : (p opening text : List ℕ) → p ++ (codes " = " ++ opening) ++ text ++ codes "\n" ≡ line p (opening ++ text)
line_opened p opening text = simp append_assoc
