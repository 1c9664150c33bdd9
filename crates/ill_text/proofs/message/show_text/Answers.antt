use Rattle.std.proofs.Common.{◌∙◌, sym, subst}
use Rattle.ber_leaf.specs.Profile.{profile_two}
use Rattle.ill_schema.specs.Apdu.{SpellsApdu, normal_form}
use Rattle.ill_schema.specs.Message.{apdu_of}
use Rattle.ill_text.specs.Shown.{shown_text}
use Rattle.ill_text.proofs.Messages.{message_spells}
use Rattle.ill_text.proofs.message.show_text.Goals as goal

pub outline_of-requires : goal.outline_of-requires
outline_of-requires c =
    let a = apdu_of c.args.message.now in
    (a, subst (SpellsApdu profile_two a) (sym (c.deref.ensures.value ∙ c.in_ok-normal.ensures)) (message_spells a c.body.ensures.fits c.body.ensures.within))

pub returns : goal.returns
returns c =
    let a = apdu_of c.args.message.now in
    let spells = message_spells a c.body.ensures.fits c.body.ensures.within in
    let outline = c.in_ok-outline.ensures a (subst (SpellsApdu profile_two a) (sym (c.deref.ensures.value ∙ c.in_ok-normal.ensures)) spells) in
    c.octets.ensures (shown_text c.args.number a) (c.new.ensures a (normal_form a) spells outline)
