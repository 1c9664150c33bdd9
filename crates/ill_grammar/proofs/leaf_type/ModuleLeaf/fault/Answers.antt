use Rattle.std.proofs.Common.{◌<◌, get_or, arith}
use Rattle.ber_tree.proofs.Octets.{octets_fit}
use Rattle.ill_grammar.proofs.leaf_type.ModuleLeaf.fault.Goals as goal

pub returns-clause-octets : goal.returns-clause-octets
returns-clause-octets c = octets_fit c.args.octets.now (λ k. let small : get_or c.args.octets.now k 0 < 256 = omega (arith, c.type_inv.octets k) in small)
