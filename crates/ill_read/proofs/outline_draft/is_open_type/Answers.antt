use Rattle.std.proofs.Common.{◌≡◌, false, refl}
use Rattle.ill_tables.specs.Table.{kind_of}
use Rattle.ill_tables.specs.declared.node.NodeId.{NodeId}
use Rattle.ill_tables.specs.declared.node.NodeId.TheVariants.{Any}
use Rattle.ill_grammar.specs.Cells.{is_any}

only_any : (node : NodeId) → (node ≡ Any → ⊥) → is_any (kind_of node) ≡ false
only_any Any other = absurd (other refl)
only_any _ other = refl
