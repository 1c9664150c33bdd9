-- The form in which a BitString keeps its bits: their normal content.
use Rattle.std.specs.Prelude.{◌≡◌, ℕ, List, [], ◌∷◌, IsTrue}
use Rattle.std.proofs.Common.{ap}
use Rattle.ber_tree.specs.Octets.{are_octets}
use Rattle.ber_leaf.specs.Leaf.{is_bits, cleared_last}
use Rattle.ber_leaf.specs.Simple.{Simple, bits}

-- a content with its unused bits 0
abbrev pub cleared_content : List ℕ → List ℕ
cleared_content [] = []
cleared_content (u ∷ octets) = u ∷ cleared_last u octets

-- octets that are a content, whose unused bits are 0
pub record IsNormalBits (content : List ℕ) : Type 0 where
  pub are_octets : IsTrue (are_octets content)
  pub is_bits : IsTrue (is_bits content)
  pub is_clear : cleared_content content ≡ content

abbrev bits_in : Simple → ℕ × List ℕ
bits_in (bits n octets) = (n, octets)
bits_in _ = (0, [])

-- the definitions distinguish two numbers of bits, and two lists of octets
pub bits_apart : (v w : ℕ × List ℕ) → bits v.0 v.1 ≡ bits w.0 w.1 → v ≡ w
bits_apart v w e = ap bits_in e
