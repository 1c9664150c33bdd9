use Rattle.std.proofs.Common.{◌≡◌, false, refl, subst, sym, ◌∙◌}
use Rattle.ill_commands.specs.declared.job.JobOptions.{JobOptions}
use Rattle.ill_cli.specs.Plans.{is_json_result}
use Rattle.ill_cli.specs.declared.plan.InputAction.{InputAction}
use Rattle.ill_cli.proofs.Puts.{job_put, put_by, results_put}
use Rattle.ill_cli.proofs.run.Run.put_source.Goals as goal

pub returns-in-Messages : goal.returns-in-Messages
returns-in-Messages g c =
    put_by c.args.task (InputAction.Messages c.in-Messages.work) c.in-Messages.is _ _ _ _
    (results_put c.in-Messages.work _ _ _ _ (sym c.has_json_result.ensures ∙ c.if-has_json_result.true) c.put_json_lines.ensures)

pub returns-in-Messages-2 : goal.returns-in-Messages-2
returns-in-Messages-2 g c =
    let one = c.in-Messages.is in
    let other = c.in-Messages-2.is in
    let works : c.in-Messages.work ≡ c.in-Messages-2.work = cc in
    let plain = subst (λ (work : JobOptions). is_json_result work.job ≡ false) works (sym c.has_json_result.ensures ∙ c.if-has_json_result.false) in
    put_by c.args.task (InputAction.Messages c.in-Messages-2.work) other _ _ _ _
    (job_put c.in-Messages-2.work _ _ _ _ plain c.put_messages.ensures)

pub returns-in-Elements : goal.returns-in-Elements
returns-in-Elements g c =
    put_by c.args.task (InputAction.Elements c.in-Elements.dump) c.in-Elements.is _ _ _ _ c.put_elements.ensures

pub returns-in-Lines : goal.returns-in-Lines
returns-in-Lines g c =
    put_by c.args.task (InputAction.Lines c.in-Lines.work) c.in-Lines.is _ _ _ _ (c.put_lines.ensures, refl)
