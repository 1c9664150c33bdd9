-- The text of octets, one mark after another.
use Rattle.std.proofs.Common.{◌≡◌, ◌∙◌, ℕ, ◌+◌, ◌<◌, List, ◌∷◌, ◌++◌, [], length, take, sym, ap, append_assoc, get_or}
use Rattle.std.proofs.lemmas.List.Concat.{flat_map-append}
use Rattle.ill_grammar.specs.declared.outline.Mark.{Mark}
use Rattle.ill_schema.specs.Texts.{hexadecimal}
use Rattle.ill_grammar.specs.Marks.{octets_in}
use Rattle.ill_grammar.proofs.MarkedValues.{mark_step}

pub hexadecimal_step : (xs : List Mark) (i : ℕ) (d : Mark) → i < length xs → hexadecimal (octets_in (take (i + 1) xs)) ≡ hexadecimal (octets_in (take i xs)) ++ hexadecimal (octets_in (get_or xs i d ∷ []))
hexadecimal_step xs i d h = ap hexadecimal (mark_step xs i d h) ∙ search flat_map-append

pub one_more : (a b c x y z : List ℕ) → b ≡ a ++ x → c ≡ b ++ y → z ≡ x ++ y → c ≡ a ++ z
one_more a b c x y z h k e = k ∙ ap (λ (t : List ℕ). t ++ y) h ∙ append_assoc a x y ∙ ap (λ (t : List ℕ). a ++ t) (sym e)
