use Rattle.std.proofs.Common.{rules, ◌<◌, ◌^◌, [], ◌∷◌, ap, arith}
use Rattle.json.specs.Token.{number}
use Rattle.ill_json.proofs.Added.{adds_as}
use Rattle.ill_json.proofs.WideNumbers.{wide_number}
use Rattle.ill_json.proofs.writing.LineWriter.bits.Goals as goal

pub put-requires : goal.put-requires
put-requires c =
    let fits : c.args.count < 2 ^ 128 = search rules in
    rw c.format.ensures.text (wide_number c.args.count (omega (arith, fits)))

pub returns : goal.returns
returns c = adds_as _ _ _ _ (ap (λ s. number s ∷ []) c.format.ensures.text) c.put.ensures
