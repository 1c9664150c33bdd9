-- What is read at the front of octets, in the words of identifier octets and length octets (X.690, 8.1.2 and 8.1.3).
use Rattle.std.specs.Prelude.{◌≡◌, ℕ, Bool, true, List, ◌∷◌, ◌++◌, IsTrue}
use Rattle.ber_tree.specs.Identifier.{Tag, HasIdentifier, identifier}
use Rattle.ber_tree.specs.Length.{IsLength}
use Rattle.ber_tree.specs.Octets.{are_octets}
use Rattle.ber_core.specs.Reading.{IdentifierRead, identified, part_identifier, no_identifier, read_identifier, LengthRead, definite, indefinite, part_length, no_length, read_length}

-- the octets begin with a whole identifier
abbrev pub BeginsWithIdentifier : List ℕ → Type 0
BeginsWithIdentifier w = (tag : Tag) × (constructed : Bool) × (rest : List ℕ) × HasIdentifier tag constructed × (w ≡ identifier tag constructed ++ rest)

-- with more octets they begin with one
abbrev pub MayBecomeIdentifier : List ℕ → Type 0
MayBecomeIdentifier w = (more : List ℕ) × BeginsWithIdentifier (w ++ more)

-- an identifier and the octets after it; or the front of one that isn't whole; or no front of one
abbrev pub MatchesIdentifier : List ℕ → IdentifierRead → Type 0
MatchesIdentifier w (identified tag constructed rest) = HasIdentifier tag constructed × (w ≡ identifier tag constructed ++ rest)
MatchesIdentifier w part_identifier = MayBecomeIdentifier w × (BeginsWithIdentifier w → ⊥)
MatchesIdentifier w no_identifier = MayBecomeIdentifier w → ⊥

abbrev pub IdentifiersAreRead : Type 0
IdentifiersAreRead = (w : List ℕ) → IsTrue (are_octets w) → MatchesIdentifier w (read_identifier w)

-- the octets begin with a whole length
abbrev pub BeginsWithLength : List ℕ → Type 0
BeginsWithLength w = (n : ℕ) × (octets : List ℕ) × (rest : List ℕ) × IsLength n octets × (w ≡ octets ++ rest)

-- with more octets they begin with one
abbrev pub MayBecomeLength : List ℕ → Type 0
MayBecomeLength w = (more : List ℕ) × BeginsWithLength (w ++ more)

-- the octets begin with the indefinite form, which only a constructed element has (8.1.3.2, 8.1.3.6)
abbrev pub BeginsIndefinite : Bool → List ℕ → Type 0
BeginsIndefinite constructed w = (rest : List ℕ) × (constructed ≡ true) × (w ≡ 128 ∷ rest)

-- a length and the octets after it, in definite or indefinite form; or the front of one that isn't whole; or no front of one
abbrev pub MatchesLength : Bool → List ℕ → LengthRead → Type 0
MatchesLength constructed w (definite n rest) = (octets : List ℕ) × IsLength n octets × (w ≡ octets ++ rest)
MatchesLength constructed w (indefinite rest) = (constructed ≡ true) × (w ≡ 128 ∷ rest)
MatchesLength constructed w part_length = MayBecomeLength w × (BeginsWithLength w → ⊥)
MatchesLength constructed w no_length = (MayBecomeLength w → ⊥) × (BeginsIndefinite constructed w → ⊥)

abbrev pub LengthsAreRead : Type 0
LengthsAreRead = (constructed : Bool) (w : List ℕ) → IsTrue (are_octets w) → MatchesLength constructed w (read_length constructed w)
