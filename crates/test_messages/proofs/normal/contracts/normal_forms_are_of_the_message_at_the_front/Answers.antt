use Rattle.test_messages.proofs.FrontForms.{kept_front}
use Rattle.test_messages.proofs.normal.contracts.normal_forms_are_of_the_message_at_the_front.Goals as goal

pub returns : goal.returns
returns c a n h = kept_front c.args.source.now.octets c.read_recording.new.source.octets c.args.recorded.now.items c.read_recording.new.recorded.items
    _ _ a n c.read_recording.result h c.read_recording.ensures.next
