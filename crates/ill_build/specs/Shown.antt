-- What a line can show: contents whose BIT STRINGs and foreign trees a line can say, and heads and names of files as messages have them.
use Rattle.std.specs.Prelude.{ℕ, ◌<◌, ◌^◌, IsTrue, List, Option, Some, None, IsUtf8}
use Rattle.ber_core.specs.Der.{encoding}
use Rattle.ber_leaf.specs.Simple.{Simple, bits}
use Rattle.ber_tree.specs.Octets.{are_octets}
use Rattle.ber_tree.specs.Tree.{Tree}
use Rattle.ill_json.specs.declared.line.LineHead.{LineHead}
use Rattle.ill_schema.specs.Content.{Content, simple, sequence, list, alternative, foreign, Entries, no_entries, absent, present, Items, no_items, item}

abbrev mutual
  -- each leaf of the content has the first property, and each foreign tree the second
  pub EachPart : (Simple → Type 0) → (Tree → Type 0) → Content → Type 0
  EachPart leaf tree (simple v) = leaf v
  EachPart leaf tree (sequence es) = EachEntry leaf tree es
  EachPart leaf tree (list is) = EachItem leaf tree is
  EachPart leaf tree (alternative n c) = EachPart leaf tree c
  EachPart leaf tree (foreign T) = tree T

  pub EachEntry : (Simple → Type 0) → (Tree → Type 0) → Entries → Type 0
  EachEntry leaf tree no_entries = Unit {0}
  EachEntry leaf tree (absent es) = EachEntry leaf tree es
  EachEntry leaf tree (present c es) = EachPart leaf tree c × EachEntry leaf tree es

  pub EachItem : (Simple → Type 0) → (Tree → Type 0) → Items → Type 0
  EachItem leaf tree no_items = Unit {0}
  EachItem leaf tree (item c is) = EachPart leaf tree c × EachItem leaf tree is

-- the value is no BIT STRING of 2 ^ 63 bits or more
abbrev pub IsShort : Simple → Type 0
IsShort (bits n octets) = n < 2 ^ 63
IsShort v = Unit {0}

-- the tree is encoded in octets, as it is where a length can say its size (X.690, 8.1.3.5)
abbrev pub IsInOctets : Tree → Type 0
IsInOctets T = IsTrue (are_octets (encoding T))

-- a line can say the content: each BIT STRING has fewer than 2 ^ 63 bits, and each foreign tree is encoded in octets
abbrev pub IsSayable : Content → Type 0
IsSayable c = EachPart IsShort IsInOctets c

-- the numbers of a head are of 64 bits
abbrev pub IsHead : LineHead → Type 0
IsHead head = (head.number < 2 ^ 64) × (head.offset < 2 ^ 64) × (head.octets < 2 ^ 64)

-- the name of a file, where there is one, is UTF-8
abbrev pub IsFileName : Option (List ℕ) → Type 0
IsFileName None = Unit {0}
IsFileName (Some name) = IsUtf8 name
