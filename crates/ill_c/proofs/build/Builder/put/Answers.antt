use Rattle.std.proofs.Common.{refl}
use Rattle.ill_schema.specs.Profiles.{profile_of}
use Rattle.ill_c.proofs.Built.{built}
use Rattle.ill_c.proofs.build.Builder.put.Goals as goal

pub returns-in-Ok : goal.returns-in-Ok
returns-in-Ok c =
    let builder = c.args.self in
    built builder.writes_defaults (profile_of builder.profile) c.args.line.now _ _ _ _ _ c.put.result c.in-Ok.ensures.built c.deref.ensures.value refl c.put.ensures
