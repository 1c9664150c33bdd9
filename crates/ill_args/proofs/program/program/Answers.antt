use Rattle.std.proofs.Common.{◌≡◌, ◌∙◌, ap, ap₂}
use Rattle.std.proofs.lemmas.Result.{IfOk-weaker}
use Rattle.clap.specs.Simple.{App, with_subcommand}
use Rattle.ill_args.specs.CommandLine.{all_verbs, with_commands}
use Rattle.ill_args.proofs.program.program.Goals as goal

pub returns : goal.returns
returns c =
    let top : (a b : App) → a ≡ b → a.top ≡ b.top = λ a b e. ap (λ (x : App). x.top) e in
    let all = c.in_ok-program.ensures ∙ ap (λ (a : App). with_commands c.args.profiles a all_verbs) c.in_ok-bare_program.ensures in
    let causes = c.in_ok-subcommand.ensures.shape c.topic.ensures.local ∙ ap₂ with_subcommand all (top _ _ c.topic.ensures.app) in
    IfOk-weaker c.subcommand-2.result _ _ (λ r h. h.shape c.topic-2.ensures.local ∙ ap₂ with_subcommand causes (top _ _ c.topic-2.ensures.app)) c.subcommand-2.ensures
