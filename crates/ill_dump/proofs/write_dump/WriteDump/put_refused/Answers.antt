use Rattle.std.proofs.Common.{◌++◌}
use Rattle.ill_dump.specs.Dumped.{head}
use Rattle.ill_dump.proofs.WrittenLines.{on_ok, puts_all, puts_join}
use Rattle.ill_dump.proofs.write_dump.WriteDump.put_refused.Goals as goal

pub returns-clause-begins : goal.returns-clause-begins
returns-clause-begins g c =
    let front = c.args.self.now.head.octets.items ++ head c.args.self.now.dump c.args.report.message in
    let first = c.in_ok-put_head.ensures in
    let both = puts_join _ _ _ _ _ _ c.in_ok-put_elements.ensures.puts c.in_ok-put_rest.ensures.puts in
    on_ok c.flush.result _ _ (λ put. puts_all _ (g.W.Sink.contents c.put_rest.new.sink) _ front _ _ _ first both put) c.flush.ensures.puts
