-- The arguments of a command, as clap's contracts see them.
use Rattle.clap.specs.Walk.{Rule}
use Rattle.ill_args.specs.CommandLine.{file_rule, filename_rule, files_rule, flag_rule, number_rule, output_rule, value_rule}
use Rattle.ill_args.specs.declared.argument.Argument.{Argument}

abbrev pub rule_for : Argument → Rule
rule_for (Argument.Flag name help) = flag_rule name.now
rule_for (Argument.File id name help) = file_rule id.now
rule_for (Argument.Files help) = files_rule
rule_for (Argument.Value name value help) = value_rule name.now
rule_for (Argument.Number name help) = number_rule name.now
rule_for Argument.Filename = filename_rule
rule_for Argument.Output = output_rule
