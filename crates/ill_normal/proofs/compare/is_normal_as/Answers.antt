use Rattle.ill_schema.specs.Profiles.{profile_of}
use Rattle.std.proofs.lemmas.Result.{err_from_is_err_and}
use Rattle.ill_normal.proofs.Canonical.{normal_refuses}
use Rattle.ill_normal.proofs.compare.is_normal_as.Goals as goal
use Rattle.ill_read.proofs.Accepted.{only_memory}

pub returns-in_err-normal-clause-accepts : goal.returns-in_err-normal-clause-accepts
returns-in_err-normal-clause-accepts c =
    let p = err_from_is_err_and c.from_residual.result c.from_residual.ensures.1 in
    rw (p.1, p.2) (λ a h. only_memory _ _ a (normal_refuses (profile_of c.args.profile) _ _ c.in_err-normal.ensures) h)
