use Rattle.std.proofs.Common.{◌+◌, ◌*◌, length}
use Rattle.ber_foreign.specs.Fronts.{AreTrees}
use Rattle.ber_foreign.proofs.foreign.+trees.Given as goal

abbrev pub decreases-after_tree : goal.decreases-after_tree
decreases-after_tree l = 2 * l.levels

abbrev pub decreases-are_trees : goal.decreases-are_trees
decreases-are_trees l = 2 * l.levels + 1

abbrev pub invariant-are_trees-trees : goal.invariant-are_trees-trees
invariant-are_trees-trees l = record {
  forth : AreTrees l.levels l.left → AreTrees l.levels l.octets;
  back : AreTrees l.levels l.octets → AreTrees l.levels l.left;
}

abbrev pub decreases-are_trees-trees : goal.decreases-are_trees-trees
decreases-are_trees-trees l = length l.left
