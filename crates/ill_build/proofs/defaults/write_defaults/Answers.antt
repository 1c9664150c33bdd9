use Rattle.std.proofs.Common.{◌≡◌, ◌∙◌, rules, subst, sym}
use Rattle.ill_schema.specs.Apdu.{SpellsApdu}
use Rattle.ill_schema.specs.Profiles.{profile_of}
use Rattle.ill_build.proofs.Spellings.{spelled_again}
use Rattle.ill_build.proofs.defaults.write_defaults.Goals as goal

pub returns-in-Ok : goal.returns-in-Ok
returns-in-Ok c a h e =
    let read = c.in-Ok.ensures in
    let same : c.in-Ok.read.octets.items ≡ c.args.normal.now = search rules in
    subst (SpellsApdu (profile_of c.args.profile) a) c.deref.ensures.value
    (spelled_again c.args.profile a read.0 c.args.normal.now c.deref.result.now h read.1 (sym read.2 ∙ same ∙ e))
