use Rattle.std.proofs.Common.{ap, sym}
use Rattle.std.specs.Prelude.{option_map}
use Rattle.ill_json.specs.code.Adding.{digest_tokens}
use Rattle.ill_json.proofs.Added.{adds_as, adds_nothing, adds_then}
use Rattle.ill_json.proofs.result.put_digest.Goals as goal

pub returns-in-Some : goal.returns-in-Some
returns-in-Some c = adds_as _ _ _ _ (ap (λ d. digest_tokens (option_map (λ octets. octets.now) d)) (sym c.in-Some.is)) (adds_then _ _ _ _ _ c.put.ensures c.hexadecimal_of.ensures)

pub returns-in-None : goal.returns-in-None
returns-in-None c = adds_as _ _ _ _ (ap (λ d. digest_tokens (option_map (λ octets. octets.now) d)) (sym c.in-None.is)) (adds_nothing _)
