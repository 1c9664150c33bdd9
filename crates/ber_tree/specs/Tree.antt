-- Elements and their encodings (X.690, 8.1 and 8.7).
use Rattle.std.specs.Prelude.{◌≡◌, ◌⊎◌, ℕ, ◌+◌, max, Bool, true, false, List, [], ◌∷◌, ◌++◌, length}
use Rattle.ber_tree.specs.declared.class.Class.TheVariants.{Universal}
use Rattle.ber_tree.specs.Identifier.{Tag, identifier, HasIdentifier}
use Rattle.ber_tree.specs.Length.{IsLength}

-- an element without its lengths: primitive with its contents octets, or constructed with the elements in it (8.1.1, 8.1.4)
mutual
  pub data Tree : Type 0 where
    primitive : Tag → List ℕ → Tree
    constructed : Tag → Trees → Tree

  pub data Trees : Type 0 where
    none : Trees
    more : Tree → Trees → Trees

abbrev pub tag_of : Tree → Tag
tag_of (primitive tag octets) = tag
tag_of (constructed tag trees) = tag

-- identifier, length and contents (8.1.1.1, 8.1.3.3)
pub record IsDefinite (tag : Tag) (form : Bool) (contents : List ℕ) (b : List ℕ) : Type 0 where
  pub has_identifier : HasIdentifier tag form
  pub octets : List ℕ
  pub spell_length : IsLength (length contents) octets
  pub joined : b ≡ identifier tag form ++ (octets ++ contents)

-- identifier, 80, contents and the end mark 00 00 (8.1.3.6, 8.1.5); only a constructed element may have this form (8.1.3.2)
pub record IsIndefinite (tag : Tag) (contents : List ℕ) (b : List ℕ) : Type 0 where
  pub has_identifier : HasIdentifier tag true
  pub joined : b ≡ identifier tag true ++ (128 ∷ contents ++ 0 ∷ 0 ∷ [])

abbrev mutual
  -- the octets b are an encoding of the tree
  pub Spells : Tree → List ℕ → Type 0
  Spells (primitive tag octets) b = IsDefinite tag false octets b
  Spells (constructed tag trees) b = (contents : List ℕ) × SpellsAll trees contents × (IsDefinite tag true contents b ⊎ IsIndefinite tag contents b)

  -- the octets b are encodings of the trees, joined in order
  pub SpellsAll : Trees → List ℕ → Type 0
  SpellsAll none b = b ≡ []
  SpellsAll (more tree trees) b = (x : List ℕ) × (y : List ℕ) × Spells tree x × SpellsAll trees y × (b ≡ x ++ y)

abbrev mutual
  pub depth : Tree → ℕ
  depth (primitive tag octets) = 1
  depth (constructed tag trees) = 1 + depth_all trees

  -- the greatest depth
  pub depth_all : Trees → ℕ
  depth_all none = 0
  depth_all (more tree trees) = max (depth tree) (depth_all trees)

-- OCTET STRING (8.7)
abbrev pub octet_string : Tag
octet_string = record { class = Universal; number = 4 }

abbrev mutual
  -- the tree is a string: primitive, or in segments that are strings under the tag of a segment (8.6.4, 8.7.3, 8.23.6)
  pub IsString : Tag → Tree → Type 0
  IsString segment (primitive tag octets) = Unit {0}
  IsString segment (constructed tag trees) = AreSegments segment trees

  pub AreSegments : Tag → Trees → Type 0
  AreSegments segment none = Unit {0}
  AreSegments segment (more tree trees) = (tag_of tree ≡ segment) × IsString segment tree × AreSegments segment trees

abbrev mutual
  -- a string's octets, or those of its segments, joined in order (8.7.3.2)
  pub text : Tree → List ℕ
  text (primitive tag octets) = octets
  text (constructed tag trees) = text_all trees

  pub text_all : Trees → List ℕ
  text_all none = []
  text_all (more tree trees) = text tree ++ text_all trees
