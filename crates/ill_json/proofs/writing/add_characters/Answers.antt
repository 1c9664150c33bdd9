use Rattle.ill_json.proofs.Tokens.{character_step}
use Rattle.ill_grammar.proofs.OctetTexts.{one_more}
use Rattle.ill_json.proofs.writing.add_characters.Goals as goal

pub loop-mark-preserved : goal.loop-mark-preserved
loop-mark-preserved c = one_more _ _ _ _ _ _ c.loop-mark.invariant c.in_ok-add_character.ensures (character_step c.args.octets.now c.loop-mark.mark-index _ c.loop-mark-test.true)
