use Rattle.std.proofs.Common.{◌∙◌}
use Rattle.ill_inputs.proofs.PlainTexts.{plain_octets}
use Rattle.ill_inputs.proofs.hexadecimal.text_octets.Goals as goal

pub returns-in-Ok-clause-octets : goal.returns-in-Ok-clause-octets
returns-in-Ok-clause-octets c =
    plain_octets c.args.text.now c.without_last_blank-line.result.now c.in-Ok.octets.items c.if-text-gt-MAX_HEX_TEXT.false (c.without_last_blank-line.ensures.same ∙ c.without_last_blank.ensures.same) c.in-Ok.ensures.ok
