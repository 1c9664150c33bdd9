use Rattle.std.proofs.Common.{ap, codes, sym}
use Rattle.std.specs.Prelude.{option_map}
use Rattle.ill_schema.specs.Names.{dotted_name}
use Rattle.ill_json.specs.code.Adding.{text_tokens}
use Rattle.ill_json.proofs.Added.{adds_as, adds_nothing, adds_then}
use Rattle.ill_json.proofs.result.put_part_name.Goals as goal

pub returns-in-Some : goal.returns-in-Some
returns-in-Some c =
    adds_as _ _ _ _ (ap (λ names. text_tokens (codes "part") (option_map dotted_name names)) (sym c.in-Some.ensures)) (adds_then _ _ _ _ _ c.put.ensures c.dotted.ensures)

pub returns-in-None : goal.returns-in-None
returns-in-None c = adds_as _ _ _ _ (ap (λ names. text_tokens (codes "part") (option_map dotted_name names)) (sym c.in-None.ensures)) (adds_nothing _)
