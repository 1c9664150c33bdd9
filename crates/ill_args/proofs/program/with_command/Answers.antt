use Rattle.std.proofs.Common.{◌≡◌, ◌∙◌, IfOk, ap, false, subst}
use Rattle.std.proofs.lemmas.Result.{IfOk-weaker}
use Rattle.clap.specs.Simple.{App, app_of, with_subcommand}
use Rattle.clap.specs.declared.builder.command.Command.TheViews.{out-Command as fields_of}
use Rattle.ill_args.proofs.program.with_command.Goals as goal

pub returns : goal.returns
returns c =
    IfOk-weaker c.subcommand.result _ _ (λ r h a given.
    let is = subst (λ x. IfOk x (λ command. (app_of command ≡ a) × ((fields_of command).has_globals ≡ false))) c.in_ok-command.was given in
    h.shape is.1 ∙ ap (λ (b : App). with_subcommand (app_of c.args.program) b.top) is.0) c.subcommand.ensures
