-- Elements and foreign trees in DER, at the front of octets.
use Rattle.std.specs.Prelude.{◌≡◌, ℕ, Bool, List, ◌++◌, length, IsTrue}
use Rattle.ber_tree.specs.Identifier.{Tag, identifier, HasIdentifier}
use Rattle.ber_tree.specs.Length.{shortest_length}
use Rattle.ber_tree.specs.Tree.{Tree, Trees}
use Rattle.ber_core.specs.Der.{encoding, encodings}
use Rattle.ber_core.specs.Foreign.{is_foreign, are_foreign}

-- identifier, length in the fewest octets, and contents (X.690, 8.1.1.1 and 10.1)
abbrev pub element_octets : Tag → Bool → List ℕ → List ℕ
element_octets tag form contents = identifier tag form ++ (shortest_length (length contents) ++ contents)

-- an element in DER is a prefix
abbrev pub BeginsWithElement : List ℕ → Type 0
BeginsWithElement octets =
    (tag : Tag) × (form : Bool) × (contents : List ℕ) × (behind : List ℕ) × HasIdentifier tag form × (octets ≡ element_octets tag form contents ++ behind)

-- the encoding of a foreign tree of at most so many levels is a prefix, and the rest is behind it
abbrev pub BeginsWithTree : ℕ → List ℕ → List ℕ → Type 0
BeginsWithTree levels octets behind = (T : Tree) × IsTrue (is_foreign levels T) × (octets ≡ encoding T ++ behind)

-- the octets are the encodings of foreign trees of at most so many levels, joined in order
abbrev pub AreTrees : ℕ → List ℕ → Type 0
AreTrees levels octets = (trees : Trees) × IsTrue (are_foreign levels trees) × (octets ≡ encodings trees)
