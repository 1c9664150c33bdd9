use Rattle.std.proofs.Common.{ap}
use Rattle.ill_cli.specs.declared.tally.Tally.{Tally}
use Rattle.ill_cli.proofs.Puts.{put_after}
use Rattle.ill_cli.proofs.run.Run.put.Goals as goal

pub returns : goal.returns
returns g c =
    let same = ap (λ (t : Tally). t.summary) c.add_file.ensures in
    put_after c.args.task _ _ c.add_file.new.self.summary _ _ same c.put_source.ensures
