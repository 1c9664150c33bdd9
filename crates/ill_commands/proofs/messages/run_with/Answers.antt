use Rattle.ill_commands.proofs.JobEndings.{answers}
use Rattle.ill_commands.proofs.TextAnswers.{run_does, run_more, run_refuses, run_text}
use Rattle.ill_commands.proofs.messages.run_with.Goals as goal

pub returns-clause-done : goal.returns-clause-done
returns-clause-done g c = rw c.answer_of.ensures (answers c.args.work c.args.work.hex _ _ _ c.run_job-end.result c.run_job-end.ensures.reads).0

pub returns-clause-fails : goal.returns-clause-fails
returns-clause-fails g c = rw c.answer_of.ensures (answers c.args.work c.args.work.hex _ _ _ c.run_job-end.result c.run_job-end.ensures.reads).1

pub returns-clause-does : goal.returns-clause-does
returns-clause-does g c = rw c.answer_of.ensures (run_does c.args.work _ _ _ _ c.args.work.hex _ _ _ (answers c.args.work c.args.work.hex _ _ _ c.run_job-end.result c.run_job-end.ensures.reads))

pub returns-clause-refuses : goal.returns-clause-refuses
returns-clause-refuses g c = rw c.answer_of.ensures (run_refuses c.args.work _ _ _ _ c.args.work.hex _ _ _ (answers c.args.work c.args.work.hex _ _ _ c.run_job-end.result c.run_job-end.ensures.reads))

pub returns-clause-too_many : goal.returns-clause-too_many
returns-clause-too_many g c = rw c.answer_of.ensures (run_more c.args.work _ _ _ _ c.args.work.hex _ _ _ (answers c.args.work c.args.work.hex _ _ _ c.run_job-end.result c.run_job-end.ensures.reads))

pub returns-clause-no_hex : goal.returns-clause-no_hex
returns-clause-no_hex g c = rw c.answer_of.ensures (run_text c.args.work _ _ _ _ c.args.work.hex _ _ _ (answers c.args.work c.args.work.hex _ _ _ c.run_job-end.result c.run_job-end.ensures.reads))
