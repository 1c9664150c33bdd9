use Rattle.test_commands.proofs.Dumped.{all_headed, last_headed, reads}
use Rattle.test_commands.proofs.dump.contracts.each_message_is_dumped.Goals as goal

pub returns-clause-whole : goal.returns-clause-whole
returns-clause-whole c as' stream none =
    let h = reads c.args.dump c.args.source.now.octets c.run_dump.new.source.octets _ _ _ c.run_dump.result c.requires.plain c.run_dump.ensures.reads in
    all_headed c.args.dump c.args.source.now.octets _ _ _ _ c.run_dump.result c.requires.ends h c.requires.all none as' stream

pub returns-clause-refused : goal.returns-clause-refused
returns-clause-refused c i refusal is =
    let h = reads c.args.dump c.args.source.now.octets c.run_dump.new.source.octets _ _ _ c.run_dump.result c.requires.plain c.run_dump.ensures.reads in
    last_headed c.args.dump c.args.source.now.octets _ _ _ _ c.run_dump.result c.requires.ends h c.requires.all i refusal is
