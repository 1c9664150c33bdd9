use Rattle.std.proofs.Common.{◌∙◌, ◌++◌, ap, codes, refl}
use Rattle.std.proofs.lemmas.Result.{on_ok_weaker}
use Rattle.ill_json.proofs.Added.{adds_from}
use Rattle.ill_json.proofs.writing.LineWriter.dotted.Goals as goal

pub returns : goal.returns
returns c =
    let text = c.args.first.now ++ codes "." ++ c.args.second.now in
    adds_from _ _ _ _ refl refl (c.put_made.ensures text (on_ok_weaker c.add_dotted-made.result (λ made. made ∙ ap (λ bytes. bytes ++ text) c.clear.ensures.bytes) c.add_dotted-made.ensures))
