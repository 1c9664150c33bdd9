use Rattle.std.proofs.Common.{refl}
use Rattle.ill_json.proofs.Added.{adds_failed}
use Rattle.ill_json.proofs.writing.LineWriter.fail.Goals as goal

pub returns : goal.returns
returns c ts = adds_failed ts _ _ refl
