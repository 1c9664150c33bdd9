use Rattle.std.proofs.Common.{lit≤, subst, sym}
use Rattle.ber_leaf.specs.Profile.{profile_two}
use Rattle.ill_schema.specs.Apdu.{SpellsApdu}
use Rattle.ill_schema.specs.Message.{apdu_of}
use Rattle.example_client.proofs.written.Goals as goal

pub returns-in-Ok-clause-spells : goal.returns-in-Ok-clause-spells
returns-in-Ok-clause-spells c =
    let apdu = apdu_of c.args.message.now in
    subst (SpellsApdu profile_two apdu) (sym c.in-Ok.ensures)
    (c.normal_form_is_a_spelling.ensures profile_two apdu (lit≤ tt) c.body.ensures.fits c.body.ensures.within)
