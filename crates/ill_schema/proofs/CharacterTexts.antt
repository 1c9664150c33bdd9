-- Texts of which each character stands for an octet.
use Rattle.std.proofs.Common.{◌≡◌, ◌∙◌, ℕ, true, List, [], ◌∷◌, ◌++◌, IsUtf8, refl, sym, ap, arith, ltb-true, nat_lt}
use Rattle.std.specs.Prelude.{IsTrue}
use Rattle.std.specs.Char.{encode_utf8}
use Rattle.std.specs.Str.{all_scalars, chars, encode_utf8_all}
use Rattle.std.proofs.lemmas.Bool.{and_from, and_parts}
use Rattle.std.proofs.lemmas.Str.{chars-encodes, encodes-chars}
use lib.Utf8.{low_scalar, scalar}
use Rattle.ber_tree.specs.Octets.{are_octets}
use Rattle.ill_schema.specs.Texts.{characters}

-- the text of octets as characters is their UTF-8
pub characters-encodes : (octets : List ℕ) → characters octets ≡ encode_utf8_all octets
characters-encodes [] = refl
characters-encodes (octet ∷ octets) = ap (λ (text : List ℕ). encode_utf8 octet ++ text) (characters-encodes octets)

-- each octet is the number of a character
octets_are_scalars : (octets : List ℕ) → IsTrue (are_octets octets) → all_scalars octets ≡ true
octets_are_scalars [] are = refl
octets_are_scalars (octet ∷ octets) are =
    let parts = and_parts (nat_lt octet 256) (are_octets octets) are in
    let small = ltb-true octet 256 parts.0 in
    and_from (scalar octet) (all_scalars octets) (low_scalar octet (omega (arith, small))) (octets_are_scalars octets parts.1)

-- the characters of the text of octets are the octets
pub chars-characters : (octets : List ℕ) → IsTrue (are_octets octets) → chars (characters octets) ≡ octets
chars-characters octets are = ap chars (characters-encodes octets) ∙ chars-encodes octets (octets_are_scalars octets are)

-- a text is that of its characters
pub characters-chars : (text : List ℕ) → IsUtf8 text → text ≡ characters (chars text)
characters-chars text utf8 = sym (characters-encodes (chars text) ∙ encodes-chars text utf8)

-- a text is of one list of octets
pub characters_once : (a b : List ℕ) → IsTrue (are_octets a) → IsTrue (are_octets b) → characters a ≡ characters b → a ≡ b
characters_once a b are_a are_b same = sym (chars-characters a are_a) ∙ ap chars same ∙ chars-characters b are_b
