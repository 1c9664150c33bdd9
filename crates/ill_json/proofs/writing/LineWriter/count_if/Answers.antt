use Rattle.std.proofs.Common.{ap, sym}
use Rattle.ill_json.specs.code.Adding.{count_tokens}
use Rattle.ill_json.proofs.Added.{adds_as, adds_nothing, adds_then}
use Rattle.ill_json.proofs.writing.LineWriter.count_if.Goals as goal

pub returns-in-Some : goal.returns-in-Some
returns-in-Some c = adds_as _ _ _ _ (ap (λ n. count_tokens c.args.name.now n) (sym c.in-Some.is)) (adds_then _ _ _ _ _ c.put.ensures c.count.ensures)

pub returns-in-None : goal.returns-in-None
returns-in-None c = adds_as _ _ _ _ (ap (λ n. count_tokens c.args.name.now n) (sym c.in-None.is)) (adds_nothing _)
