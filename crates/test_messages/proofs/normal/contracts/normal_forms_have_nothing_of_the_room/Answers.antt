use Rattle.test_messages.proofs.FrontForms.{normal_front}
use Rattle.test_messages.proofs.normal.contracts.normal_forms_have_nothing_of_the_room.Goals as goal

pub returns : goal.returns
returns c a n h = normal_front c.args.source.now c.read.new.source _ _ a n c.read.result h c.read.ensures.next
