use Rattle.std.proofs.Common.{ap, ◌∙◌}
use Rattle.ill_normal.specs.Calls.{putting}
use Rattle.ill_cli.specs.Counts.{with_kinds}
use Rattle.ill_cli.proofs.input.put_messages.Goals as goal

pub returns : goal.returns
returns g c =
    let output = putting (g.W.Sink.contents c.args.sink.now) (g.W.Sink.contents c.run_job-end.new.sink) (g.W.Sink.is_broken c.run_job-end.new.sink) in
    let kinds = c.run_job-end.new.reports.kinds in (
      c.add_input.result,
      kinds,
      record {
        end = c.run_job-end.result;
        last = c.end-last.result;
        before = record c.end-last.new.tally { summary = c.add_kinds.new.self };
        is_end = (output, c.run_job-end.ensures.reads);
        same = c.add_kinds.ensures ∙ ap (λ s. with_kinds s kinds) c.end-last.ensures;
        adds = c.add_input.ensures.counts;
        answers = c.add_input.ensures.answer;
      },
      c.job_verdict.ensures,
    )
