use Rattle.std.proofs.Common.{◌∙◌, ◌++◌, ap, codes, decimal, take}
use Rattle.ber_leaf.specs.Leaf.{bit_count, bit_octets}
use Rattle.ill_text.specs.Shown.{line}
use Rattle.ill_grammar.specs.Marks.{octets_in}
use Rattle.ill_text.specs.code.Bits.{filled_text}
use Rattle.ill_text.specs.code.FieldPaths.{path_of}
use Rattle.ill_text.proofs.FilledOctets.{are_bits, bits_text}
use Rattle.ill_text.proofs.OctetMarks.{front_are, line_opened}
use Rattle.ill_text.proofs.Sent.{adds_as, adds_then}
use Rattle.ill_text.proofs.module_leaf.put_bits.Goals as goal

pub returns-clause-adds : goal.returns-clause-adds
returns-clause-adds g c p name content =
    let o = octets_in (take c.leading_octets-count.result c.args.marks.now) in
    let are = front_are c.args.marks.now c.leading_octets-count.result c.leading_octets-count.ensures.exact in
    let bits = are_bits p o content in
    adds_as _ _ _ _ (line_opened (path_of c.args.path.now) (codes "bits ") (decimal (bit_count o) ++ filled_text (bit_octets o)) ∙ ap (line (path_of c.args.path.now)) (bits_text name o bits))
    (adds_then _ _ _ _ _ (adds_then _ _ _ _ _ (adds_then _ _ _ _ _ c.put_path.ensures.adds c.put.ensures.adds) (c.put_bit_content.ensures.adds o bits are)) c.put-2.ensures.adds)
