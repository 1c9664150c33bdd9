use Rattle.std.proofs.Common.{◌∙◌, ◌++◌, ap, refl}
use Rattle.std.proofs.lemmas.Result.{on_ok_weaker}
use Rattle.ill_grammar.specs.Marks.{octets_in}
use Rattle.ill_schema.specs.Texts.{characters}
use Rattle.ill_json.proofs.Added.{adds_from}
use Rattle.ill_json.proofs.writing.LineWriter.octets.Goals as goal

pub returns : goal.returns
returns c =
    let text = characters (octets_in c.args.octets.now) in
    adds_from _ _ _ _ refl refl (c.put_made.ensures text (on_ok_weaker c.add_characters-made.result (λ made. made ∙ ap (λ bytes. bytes ++ text) c.clear.ensures.bytes) c.add_characters-made.ensures))
