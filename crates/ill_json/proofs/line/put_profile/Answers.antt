use Rattle.std.proofs.Common.{ap, sym}
use Rattle.ill_schema.specs.Profiles.{profile_of}
use Rattle.ill_json.specs.code.Adding.{profile_tokens}
use Rattle.ill_json.proofs.Added.{adds_as, adds_nothing, adds_then}
use Rattle.ill_json.proofs.line.put_profile.Goals as goal

pub returns-in-Two : goal.returns-in-Two
returns-in-Two c = adds_as _ _ _ _ (ap (λ p. profile_tokens (profile_of p).full) (sym c.in-Two.is)) (adds_nothing _)

pub returns-in-Module : goal.returns-in-Module
returns-in-Module c = adds_as _ _ _ _ (ap (λ p. profile_tokens (profile_of p).full) (sym c.in-Module.is)) (adds_then _ _ _ _ _ c.put.ensures c.put-in-Module.ensures)
