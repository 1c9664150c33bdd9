-- Texts in ASCII, of which each character stands for an octet.
use Rattle.std.proofs.Common.{◌≡◌, ◌∙◌, ℕ, suc, List, [], ◌∷◌, refl, sym, arith}
use Rattle.std.specs.Prelude.{IsTrue}
use Rattle.std.specs.Str.{IsAscii}
use Rattle.std.proofs.lemmas.Str.Ascii.{encodes-IsAscii}
use Rattle.ber_tree.specs.Octets.{are_octets}
use Rattle.ill_schema.specs.Texts.{characters}
use Rattle.ill_schema.proofs.CharacterTexts.{characters-encodes}
use Rattle.ill_texts.proofs.OctetLists.{octets-cons}

-- a text in ASCII is that of its octets
pub characters-IsAscii : (text : List ℕ) → IsAscii text → text ≡ characters text
characters-IsAscii text ascii = sym (characters-encodes text ∙ encodes-IsAscii text ascii)

-- and those are octets
pub octets-IsAscii : (text : List ℕ) → IsAscii text → IsTrue (are_octets text)
octets-IsAscii [] ascii = refl
octets-IsAscii (octet ∷ text) ascii =
    let small = ascii 0 in
    octets-cons octet text (omega (arith, small)) (octets-IsAscii text (λ k. ascii (suc k)))
