-- What measuring an element returns and pushes.
use Rattle.std.specs.Prelude.{◌≡◌, ℕ, List, ◌++◌}
use Rattle.ber_core.specs.Der.{size, sizes}
use Rattle.ber_tree.specs.Tree.{Tree, Trees}
use Rattle.ill_write.specs.ContentSizes.{content_sizes, all_content_sizes}

-- n is the size of the trees, and the content sizes in them are pushed
abbrev pub Measures : List ℕ → List ℕ → ℕ → Trees → Type 0
Measures before after n ts = (n ≡ sizes ts) × (after ≡ before ++ all_content_sizes ts)

-- the same of one tree
abbrev pub MeasuresOne : List ℕ → List ℕ → ℕ → Tree → Type 0
MeasuresOne before after n T = (n ≡ size T) × (after ≡ before ++ content_sizes T)
