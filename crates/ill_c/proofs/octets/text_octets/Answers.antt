use Rattle.ill_schema.specs.Profiles.{profile_of}
use Rattle.ill_text.specs.Shown.{shown_text_in}
use Rattle.ill_c.proofs.octets.text_octets.Goals as goal

pub returns : goal.returns
returns c a octets h outline =
    c.octets.ensures (shown_text_in (profile_of c.args.profile) c.args.number a) (c.new_as.ensures a octets h outline)
