use Rattle.std.proofs.Common.{◌≡◌, ℕ, zero, suc, ◌/◌, ◌%◌, ◌<◌, true, List, [], ◌∷◌, nat_lt, sym, ap, subst, refl, codes, slice_index, ltb-true, arith}
use Rattle.std.proofs.lemmas.Bool.{and_parts}
use Rattle.std.specs.List.{list_all}
use Rattle.hex.specs.Hex.{encode_with}
use Rattle.ill_schema.proofs.hexadecimal.hexadecimal_digits.Goals as goal

small_at : (octets : List ℕ) (n : ℕ) → list_all (λ o. nat_lt o 128) octets ≡ true → slice_index octets n < 128
small_at [] n all = omega arith
small_at (o ∷ octets) zero all = ltb-true o 128 (and_parts _ _ all).0
small_at (o ∷ octets) (suc n) all = small_at octets n (and_parts (nat_lt o 128) _ all).1

-- a hexadecimal digit is ASCII
digit_small : (n : ℕ) → slice_index (codes "0123456789abcdef") n < 128
digit_small n = small_at (codes "0123456789abcdef") n refl

pub returns : goal.returns
unfolding encode_with
returns c =
    let written = c.in-Ok.ensures.written in
    record {
      digits = written;
      ascii = (subst (λ d. d < 128) (sym (ap (λ l. slice_index l 0) written)) (digit_small (c.args.octet / 16)), subst (λ d. d < 128) (sym (ap (λ l. slice_index l 1) written)) (digit_small (c.args.octet % 16)));
    }
