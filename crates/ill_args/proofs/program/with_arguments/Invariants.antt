use Rattle.std.proofs.Common.{◌≡◌, false, map, take}
use Rattle.clap.specs.Simple.{app_of}
use Rattle.clap.specs.declared.builder.command.Command.TheViews.{out-Command as fields_of}
use Rattle.ill_args.specs.CommandLine.{with_rules}
use Rattle.ill_args.specs.code.Arguments.{rule_for}
use Rattle.ill_args.proofs.program.with_arguments.Given as goal

abbrev pub invariant-loop-argument : goal.invariant-loop-argument
invariant-loop-argument l = (app_of l.command ≡ with_rules (app_of l.fn.command) (map rule_for (take l.argument-index l.arguments))) × ((fields_of l.command).has_globals ≡ false)
