use Rattle.std.proofs.Common.{refl, ◌∙◌}
use Rattle.ill_schema.specs.Profiles.{profile_of}
use Rattle.ill_text.specs.Shown.{shown_text_in}
use Rattle.ill_c.proofs.Made.{made}
use Rattle.ill_c.proofs.octets.show.Goals as goal

pub returns-in-Ok-text_octets : goal.returns-in-Ok-text_octets
returns-in-Ok-text_octets c =
    let p = profile_of c.args.profile in
    let read = c.in-Ok.ensures in
    made p (shown_text_in p c.args.number) c.args.octets.now _ read.0 _ _ _ c.put.result read.1
    (c.deref.ensures.value ∙ c.in-Ok-text_octets.ensures read.0 c.args.octets.now read.1 read.2) refl c.put.ensures
