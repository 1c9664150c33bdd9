use Rattle.std.proofs.Common.{refl, rules}
use Rattle.ill_json.proofs.Added.{adds_failed, adds_one}
use Rattle.ill_json.proofs.writing.LineWriter.put.Goals as goal

pub returns-then-is_err : goal.returns-then-is_err
returns-then-is_err c = adds_failed _ _ _ refl

pub returns-else-is_err : goal.returns-else-is_err
returns-else-is_err c = adds_one _ _ _ refl (search rules)
