use Rattle.ill_commands.proofs.messages.run_job.Goals as goal

pub returns-clause-reads : goal.returns-clause-reads
returns-clause-reads g c = rw c.new-writer.ensures at c.read_input.ensures.reads
