use Rattle.std.proofs.Common.{ap, sym}
use Rattle.std.specs.Prelude.{option_map}
use Rattle.ill_json.specs.code.Adding.{text_tokens}
use Rattle.ill_json.proofs.Added.{adds_as, adds_nothing, adds_then}
use Rattle.ill_json.proofs.writing.LineWriter.text_if.Goals as goal

pub returns-in-Some : goal.returns-in-Some
returns-in-Some c = adds_as _ _ _ _ (ap (λ t. text_tokens c.args.name.now (option_map (λ text. text.now) t)) (sym c.in-Some.is)) (adds_then _ _ _ _ _ c.put.ensures c.put-in-Some.ensures)

pub returns-in-None : goal.returns-in-None
returns-in-None c = adds_as _ _ _ _ (ap (λ t. text_tokens c.args.name.now (option_map (λ text. text.now) t)) (sym c.in-None.is)) (adds_nothing _)
