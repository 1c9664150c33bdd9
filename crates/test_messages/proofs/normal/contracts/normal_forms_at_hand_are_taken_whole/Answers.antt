use Rattle.test_messages.proofs.FrontForms.{normal_front}
use Rattle.test_messages.proofs.normal.contracts.normal_forms_at_hand_are_taken_whole.Goals as goal

pub returns : goal.returns
returns c a n h = normal_front c.args.source.now c.read_normal.new.source _ _ a n c.read_normal.result h c.read_normal.ensures
