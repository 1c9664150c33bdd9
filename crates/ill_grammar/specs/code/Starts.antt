-- What a tag begins.
use Rattle.std.specs.Prelude.{◌≡◌, ℕ, List, Option, Some, None, IsTrue}
use Rattle.ber_tree.specs.Identifier.{Tag}
use Rattle.ill_tables.specs.declared.node.NodeId.{NodeId}
use Rattle.ill_refusals.specs.Element.{Element, Start}
use Rattle.ill_grammar.specs.Elements.{element_with}
use Rattle.ill_grammar.specs.Cells.{element_in, BeginsAlternative}
use Rattle.ill_grammar.specs.code.Meant.{opens_in}
use Rattle.ill_grammar.specs.declared.cell.Cell.{Cell}

-- the element begins by an alternative of this number exactly where there is a choice
abbrev pub BeginsIn : Tag → Option NodeId → Option ℕ → Element → Type 0
BeginsIn t None None e = Unit {0}
BeginsIn t (Some node) (Some n) e = BeginsAlternative t node n e
BeginsIn _ _ _ _ = ⊥

-- the tag begins the element by one of these, or by an alternative
pub record IsBegun (t : Tag) (ss : List Start) (choice : Option NodeId) (alternative : Option ℕ) (e : Element) : Type 0 where
  pub is : element_with t ss ≡ Some e
  pub by : BeginsIn t choice alternative e

-- what has the tag is this cell's, by one of these starts
pub record IsBegunBy (t : Tag) (ss : List Start) (choice : Option NodeId) (alternative : Option ℕ) (c : Cell) : Type 0 where
  pub tagged : IsBegun t ss choice alternative (element_in c.part c.node c.element_type)
  pub opens : IsTrue (opens_in c.element_type c.node)
