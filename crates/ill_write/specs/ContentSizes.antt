-- The sizes in the headers of a normal form.
use Rattle.std.specs.Prelude.{ℕ, List, [], ◌∷◌, ◌++◌}
use Rattle.ber_core.specs.Der.{sizes}
use Rattle.ber_tree.specs.Tree.{Tree, Trees, primitive, constructed, none, more}
use Rattle.ill_schema.specs.declared.message.Message.{Message}
use Rattle.ill_tables.specs.declared.node.NodeId.TheVariants.{IllApdu}
use Rattle.ill_schema.specs.Apdu.{choice_of}
use Rattle.ill_schema.specs.Message.{apdu_of}
use Rattle.ill_schema.specs.Normal.{normal_tree}
use Rattle.ill_schema.specs.Tagging.{untagged}

abbrev mutual
  -- how many octets the contents of each constructed element have, in the order of their headers
  pub content_sizes : Tree → List ℕ
  content_sizes (primitive tag octets) = []
  content_sizes (constructed tag trees) = sizes trees ∷ all_content_sizes trees

  pub all_content_sizes : Trees → List ℕ
  all_content_sizes none = []
  all_content_sizes (more tree trees) = content_sizes tree ++ all_content_sizes trees

-- the normal tree of a message, whose encoding is its normal form
abbrev pub tree_of : Message → Tree
tree_of m = normal_tree (choice_of (apdu_of m)) IllApdu untagged
