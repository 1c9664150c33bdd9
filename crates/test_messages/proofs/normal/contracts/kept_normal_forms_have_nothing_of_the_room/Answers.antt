use Rattle.test_messages.proofs.FrontForms.{kept_front}
use Rattle.test_messages.proofs.normal.contracts.kept_normal_forms_have_nothing_of_the_room.Goals as goal

pub returns : goal.returns
returns c a n h = kept_front c.args.source.now.octets c.read_recording.new.source.octets c.args.recorded.now.items c.read_recording.new.recorded.items
    _ _ a n c.read_recording.result h c.read_recording.ensures.next
