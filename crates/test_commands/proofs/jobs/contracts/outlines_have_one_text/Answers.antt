use Rattle.std.proofs.Common.{◌∙◌, sym}
use Rattle.ill_schema.specs.Profiles.{profile_of}
use Rattle.ill_text.specs.Shown.{shown_text_in}
use Rattle.test_commands.proofs.jobs.contracts.outlines_have_one_text.Goals as goal

pub returns : goal.returns
returns c =
    let r = c.requires in
    let text = shown_text_in (profile_of c.args.profile) c.args.number r.0 in
    c.in_ok-octets.ensures text (c.new_as.ensures r.0 r.1 r.2 r.3) ∙ sym (c.in_ok-octets-2.ensures text (c.new_as-2.ensures r.0 r.1 r.2 r.4))
