use Rattle.std.proofs.Common.{◌∙◌}
use Rattle.clap.specs.Simple.{app_of}
use Rattle.ill_args.proofs.Arguments.{next_command}
use Rattle.ill_args.proofs.program.with_commands.Goals as goal

pub loop-verb-preserved : goal.loop-verb-preserved
loop-verb-preserved c =
    c.in_ok-program.ensures _ c.command_of.ensures
    ∙ next_command c.args.profiles.names (app_of c.args.program) (app_of c.loop-verb.program) c.args.verbs.now c.loop-verb.verb-index _ c.loop-verb-test.true c.loop-verb.invariant
