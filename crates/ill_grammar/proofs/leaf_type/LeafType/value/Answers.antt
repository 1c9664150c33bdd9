use Rattle.std.proofs.Common.{subst}
use Rattle.ber_leaf.specs.Content.{IsContent}
use Rattle.ill_grammar.specs.declared.leaf_type.LeafType.{LeafType}
use Rattle.ill_grammar.specs.LeafTypes.{leaf_is}
use Rattle.ill_grammar.proofs.Enumerated.{as_integer}
use Rattle.ill_grammar.proofs.leaf_type.LeafType.value.Goals as goal

pub of-requires-in-Enumerated : goal.of-requires-in-Enumerated
of-requires-in-Enumerated c =
    let P : LeafType → Type 0 = λ t. IsContent (leaf_is t) c.args.octets.items in
    as_integer c.args.octets.items (subst P c.in-Enumerated.is c.requires)
