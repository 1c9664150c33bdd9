use Rattle.std.proofs.Common.{◌≡◌, Option, Some, None, IfSome, IsTrue}
use Rattle.ill_tables.specs.Table.{kind_of}
use Rattle.ill_tables.specs.declared.node.Kind.{Kind}
use Rattle.ill_schema.proofs.Tags.{two_not_any}
use Rattle.ill_grammar.specs.Places.{is_two}
use Rattle.ill_grammar.specs.declared.place.Found.{Found}
use Rattle.ill_grammar.proofs.place.Place.find.Goals as goal

pub returns-in-None-clause-two : goal.returns-in-None-clause-two
returns-in-None-clause-two c two = go c.find_any.result c.find_any.ensures.open
  where
    go : (o : Option Found) → IfSome o (λ _. kind_of c.args.self.parent.now.node ≡ Kind.Any) → IfSome o (λ found. IsTrue (is_two found))
    go None h = tt
    go (Some f) h = absurd (two_not_any c.args.self.parent.now.node two h)
