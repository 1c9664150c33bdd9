use Rattle.std.proofs.Common.{ap, ◌∙◌}
use Rattle.ill_normal.specs.Calls.{putting}
use Rattle.ill_cli.specs.Counts.{with_kinds}
use Rattle.ill_cli.proofs.input.put_elements.Goals as goal

pub returns : goal.returns
returns g c =
    let output = putting (g.W.Sink.contents c.args.sink.now) (g.W.Sink.contents c.run_dump-end.new.sink) (g.W.Sink.is_broken c.run_dump-end.new.sink) in
    let kinds = c.run_dump-end.new.reports.kinds in (
      c.add_input.result,
      kinds,
      record {
        end = c.run_dump-end.result;
        last = c.end-last.result;
        before = record c.end-last.new.tally { summary = c.add_kinds.new.self };
        is_end = (output, c.run_dump-end.ensures.reads);
        same = c.add_kinds.ensures ∙ ap (λ s. with_kinds s kinds) c.end-last.ensures;
        adds = c.add_input.ensures.counts;
        answers = c.add_input.ensures.answer;
      },
      c.dump_verdict.ensures,
    )
