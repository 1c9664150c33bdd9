use Rattle.std.proofs.Common.{◌∙◌, ◌++◌, ap, List, ℕ, codes, take}
use Rattle.std.specs.Prelude.{flat_map}
use Rattle.ill_text.specs.Shown.{escaped}
use Rattle.ill_grammar.specs.Marks.{octets_in}
use Rattle.ill_text.specs.code.FieldPaths.{path_of}
use Rattle.ill_text.proofs.Lines.{line_quoted}
use Rattle.ill_text.proofs.Sent.{adds_as, adds_then}
use Rattle.ill_text.proofs.leaf.put_quoted.Goals as goal

pub returns-clause-adds : goal.returns-clause-adds
returns-clause-adds g c =
    let p = path_of c.args.path.now in
    let e = flat_map escaped (octets_in (take c.put_escaped-count.result c.args.marks.now)) in
    adds_as _ _ _ _ (ap (λ (o : List ℕ). p ++ codes " = " ++ o ++ e ++ codes "\"\n") c.as_bytes.ensures.value ∙ line_quoted p c.args.opening.now e)
    (adds_then _ _ _ _ _ (adds_then _ _ _ _ _ (adds_then _ _ _ _ _ (adds_then _ _ _ _ _ c.put_path.ensures.adds c.put.ensures.adds) c.put-2.ensures.adds) c.put_escaped-count.ensures.adds) c.put-3.ensures.adds)
