use Rattle.std.proofs.Common.{◌∙◌, ap, append-nil, codes, map, sym}
use Rattle.ber_core.specs.Der.{encoding}
use Rattle.ber_core.specs.Foreign.{foreign_levels}
use Rattle.ber_tree.specs.Tree.{more, none}
use Rattle.ill_grammar.specs.declared.outline.Mark.TheVariants as mark
use Rattle.ill_text.specs.Shown.{tree_text}
use Rattle.ill_text.specs.code.FieldPaths.{path_of}
use Rattle.ill_text.proofs.ForeignTrees.{one_tree}
use Rattle.ill_text.proofs.OctetMarks.{front_are, line_opened}
use Rattle.ill_text.proofs.Sent.{adds_as, adds_then}
use Rattle.ill_text.proofs.foreign.put_foreign.Goals as goal

pub returns-clause-adds : goal.returns-clause-adds
returns-clause-adds g c T h e =
    let are = front_are c.args.marks.now c.leading_octets-count.result c.leading_octets-count.ensures.exact ∙ ap (map mark.Octet) (e ∙ sym (append-nil (encoding T))) in
    adds_as _ _ _ _ (line_opened (path_of c.args.path.now) (codes "foreign ") (tree_text T))
    (adds_then _ _ _ _ _ (adds_then _ _ _ _ _ (adds_then _ _ _ _ _ c.put_path.ensures.adds c.put.ensures.adds) (c.put_trees.ensures.adds (more T none) (one_tree foreign_levels T h) are)) c.put-2.ensures.adds)
