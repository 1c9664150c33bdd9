use Rattle.std.proofs.Common.{◌≡◌, take}
use Rattle.clap.specs.Simple.{app_of}
use Rattle.ill_args.specs.CommandLine.{with_commands}
use Rattle.ill_args.proofs.program.with_commands.Given as goal

abbrev pub invariant-loop-verb : goal.invariant-loop-verb
invariant-loop-verb l = app_of l.program ≡ with_commands l.fn.profiles.names (app_of l.fn.program) (take l.verb-index l.verbs)
