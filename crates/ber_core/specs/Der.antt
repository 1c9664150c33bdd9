-- DER: definite lengths in the fewest octets (X.690, 10.1).
use Rattle.std.specs.Prelude.{ℕ, ◌+◌, Bool, true, false, List, [], ◌++◌, length}
use Rattle.ber_tree.specs.Identifier.{Tag, identifier, HasIdentifier}
use Rattle.ber_tree.specs.Length.{shortest_length}
use Rattle.ber_tree.specs.Tree.{Tree, Trees, primitive, constructed, none, more}

abbrev mutual
  -- identifier, shortest length and contents (10.1)
  pub encoding : Tree → List ℕ
  encoding (primitive tag octets) = identifier tag false ++ (shortest_length (length octets) ++ octets)
  encoding (constructed tag trees) = identifier tag true ++ (shortest_length (length (encodings trees)) ++ encodings trees)

  -- those of the trees, joined in order
  pub encodings : Trees → List ℕ
  encodings none = []
  encodings (more tree trees) = encoding tree ++ encodings trees

abbrev pub header_size : Tag → Bool → ℕ → ℕ
header_size tag form n = length (identifier tag form) + length (shortest_length n)

abbrev mutual
  -- how many octets the encoding has
  pub size : Tree → ℕ
  size (primitive tag octets) = header_size tag false (length octets) + length octets
  size (constructed tag trees) = header_size tag true (sizes trees) + sizes trees

  pub sizes : Trees → ℕ
  sizes none = 0
  sizes (more tree trees) = size tree + sizes trees

abbrev mutual
  -- each element's tag and form have an identifier
  pub HasIdentifiers : Tree → Type 0
  HasIdentifiers (primitive tag octets) = HasIdentifier tag false
  HasIdentifiers (constructed tag trees) = HasIdentifier tag true × HaveIdentifiers trees

  pub HaveIdentifiers : Trees → Type 0
  HaveIdentifiers none = Unit {0}
  HaveIdentifiers (more tree trees) = HasIdentifiers tree × HaveIdentifiers trees
