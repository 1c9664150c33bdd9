use Rattle.std.proofs.Common.{◌∙◌, ◌||◌, Bool, ap, ap₂}
use Rattle.clap.specs.Simple.{app_of, with_rule}
use Rattle.clap.specs.Walk.{Rule}
use Rattle.ill_args.proofs.Arguments.{next_argument}
use Rattle.ill_args.proofs.program.with_arguments.Goals as goal

pub loop-argument-preserved : goal.loop-argument-preserved
loop-argument-preserved c =
    let so_far = c.loop-argument.invariant in (
      c.in_ok-command.ensures.shape c.arg.ensures.local ∙ ap (λ (r : Rule). with_rule (app_of c.loop-argument.command) r) c.arg.ensures.rule
          ∙ next_argument (app_of c.args.command) (app_of c.loop-argument.command) c.args.arguments.now c.loop-argument.argument-index _ c.loop-argument-test.true so_far.0,
      c.in_ok-command.ensures.globals ∙ ap₂ (λ (x y : Bool). x || y) so_far.1 c.arg.ensures.local,
    )
