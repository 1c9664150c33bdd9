use Rattle.std.proofs.Common.{◌∙◌, refl}
use Rattle.ill_schema.specs.Profiles.{profile_of}
use Rattle.ill_c.specs.Calls.{json_in}
use Rattle.ill_c.proofs.Made.{made}
use Rattle.ill_c.proofs.json.json.Goals as goal

pub returns-in-Ok-line : goal.returns-in-Ok-line
returns-in-Ok-line c =
    let p = profile_of c.args.profile in
    let s = c.args.octets.now in
    let read = c.in-Ok.ensures in
    made p (json_in c.args.place.number c.args.place.offset s p) s _ read.0 _ _ _ c.put.result read.1
    (c.deref.ensures.value ∙ c.in-Ok-line.ensures read.0 read.4 read.3 read.2) refl c.put.ensures
