use Rattle.std.proofs.Common.{codes, take}
use Rattle.ill_text.specs.Shown.{content_text}
use Rattle.ill_grammar.specs.Marks.{octets_in}
use Rattle.ill_text.specs.code.FieldPaths.{path_of}
use Rattle.ill_text.proofs.OctetMarks.{front_are, line_opened}
use Rattle.ill_text.proofs.Sent.{adds_as, adds_then}
use Rattle.ill_text.proofs.module_leaf.put_octet_string.Goals as goal

pub returns-clause-adds : goal.returns-clause-adds
returns-clause-adds g c =
    let o = octets_in (take c.leading_octets-count.result c.args.marks.now) in
    let are = front_are c.args.marks.now c.leading_octets-count.result c.leading_octets-count.ensures.exact in
    adds_as _ _ _ _ (line_opened (path_of c.args.path.now) (codes "octets ") (content_text o))
    (adds_then _ _ _ _ _ (adds_then _ _ _ _ _ (adds_then _ _ _ _ _ c.put_path.ensures.adds c.put.ensures.adds) (c.put_content.ensures.adds o are)) c.put-2.ensures.adds)
