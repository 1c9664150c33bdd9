use Rattle.ill_normal.specs.Calls.{putting}
use Rattle.ill_cli.proofs.input.put_lines.Goals as goal

pub returns : goal.returns
returns g c =
    let output = putting (g.W.Sink.contents c.args.sink.now) (g.W.Sink.contents c.run_lines_as.new.sink) (g.W.Sink.is_broken c.run_lines_as.new.sink) in
    (c.run_lines_as.result, (output, c.run_lines_as.ensures.done, c.run_lines_as.ensures.fails), c.lines_verdict.ensures)
