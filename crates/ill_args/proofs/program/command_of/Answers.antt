use Rattle.std.proofs.Common.{◌∙◌, ap₂}
use Rattle.ill_args.specs.CommandLine.{with_rules}
use Rattle.ill_args.proofs.program.command_of.Goals as goal

pub returns : goal.returns
returns c =
    let bare = c.in_ok-command.ensures in
    let command = c.in_ok-command-2.ensures in
    (c.with_usage.ensures.app ∙ command.0 ∙ ap₂ with_rules bare.0 c.arguments.ensures, c.with_usage.ensures.local ∙ command.1)
