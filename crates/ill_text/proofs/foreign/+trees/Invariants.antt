use Rattle.std.proofs.Common.{◌≡◌, ◌+◌, ◌*◌, length, map, IsTrue}
use Rattle.ber_core.specs.Der.{encodings}
use Rattle.ber_core.specs.Foreign.{are_foreign}
use Rattle.ber_tree.specs.Tree.{Trees}
use Rattle.ill_grammar.specs.declared.outline.Mark.TheVariants as mark
use Rattle.ill_text.specs.code.Sending.{sending}
use Rattle.ill_text.proofs.ForeignTrees.{TreesReached}
use Rattle.ill_text.proofs.foreign.+trees.Given as goal

abbrev pub decreases-put_trees : goal.decreases-put_trees
decreases-put_trees g l = 2 * l.levels

abbrev pub decreases-put_tree : goal.decreases-put_tree
decreases-put_tree g l = 2 * l.inside + 1

abbrev pub invariant-put_trees-trees : goal.invariant-put_trees-trees
invariant-put_trees-trees g l = record {
  reached : (ts : Trees) → IsTrue (are_foreign l.fn.levels ts) → l.fn.marks ≡ map mark.Octet (encodings ts)
      → TreesReached l.fn.levels ts l.left (sending (g.W.Sink.contents l.fn.sink) (g.W.Sink.is_broken l.fn.sink) l.fn.out) (sending (g.W.Sink.contents l.sink) (g.W.Sink.is_broken l.sink) l.out);
  stays : IsTrue (g.W.Sink.is_broken l.fn.sink) → IsTrue (g.W.Sink.is_broken l.sink);
}

abbrev pub decreases-put_trees-trees : goal.decreases-put_trees-trees
decreases-put_trees-trees g l = length l.left
