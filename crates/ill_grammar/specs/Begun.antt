-- What a tag begins: an element, or a row that is left out.
use Rattle.ill_tables.specs.declared.part.PartId.{PartId}
use Rattle.ill_grammar.specs.declared.element.Element.{Element as CodeElement}

pub data Begun : Type 0 where
  Element : CodeElement → Begun
  LeftOut : PartId → Begun
