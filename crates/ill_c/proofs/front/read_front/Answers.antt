use Rattle.std.proofs.Common.{subst}
use Rattle.ill_schema.specs.Profiles.{profile_of}
use Rattle.ill_refusals.specs.Fault.{fault_of}
use Rattle.ill_refusals.specs.Outcome.{OnlyRefuses}
use Rattle.ill_read.specs.Answers.{IsPartIn}
use Rattle.ill_c.proofs.Fronts.{none_part, truncated_part}
use Rattle.ill_c.proofs.front.read_front.Goals as goal

pub returns-in-Ok-None : goal.returns-in-Ok-None
returns-in-Ok-None c =
    let p = profile_of c.args.profile in
    let h = rw c.in-Ok-None.field-0-is at c.in-Ok-None.ensures in
    let part = none_part c.args.profile c.new-source.result c.read_normal.new.source h.none.0 h.none.1 in
    subst (IsPartIn p) c.new-source.ensures part

pub returns-in-Truncated : goal.returns-in-Truncated
returns-in-Truncated c =
    let p = profile_of c.args.profile in
    let h = rw c.in-Err-Refused.field-0-is at c.in-Err-Refused.ensures in
    let part = truncated_part c.args.profile c.new-source.result c.in-Err-Refused.it h.refused.1 c.in-Truncated.is in
    subst (IsPartIn p) c.new-source.ensures part

pub returns-in_default : goal.returns-in_default
returns-in_default c =
    let h = rw c.in-Err-Refused.field-0-is at c.in-Err-Refused.ensures in
    let fault = fault_of c.in-Err-Refused.it in
    (subst (λ s. OnlyRefuses (profile_of c.args.profile) s fault) c.new-source.ensures h.refused.1, c.in_default.not-Truncated)
