use Rattle.ill_schema.specs.Profiles.{profile_of}
use Rattle.std.proofs.lemmas.Result.{err_from_is_err_and}
use Rattle.ill_normal.proofs.InputAnswers.{fails_accepts, fails_refuses, forwarded_accepts, forwarded_empty, forwarded_refuses, none_accepts}
use Rattle.ill_normal.proofs.single.normalise_as.Goals as goal
use Rattle.ill_read.proofs.Accepted.{at_end_before}

pub returns-in_err-size-clause-accepts : goal.returns-in_err-size-clause-accepts
returns-in_err-size-clause-accepts g c =
    let p = err_from_is_err_and c.from_residual.result c.from_residual.ensures.1 in
    rw (p.1, p.2) (fails_accepts (profile_of c.args.profile) _ _ _ _ _ _ _ c.in_err-size.ensures.fails)

pub returns-in_err-size-clause-refuses : goal.returns-in_err-size-clause-refuses
returns-in_err-size-clause-refuses g c =
    let p = err_from_is_err_and c.from_residual.result c.from_residual.ensures.1 in
    rw (p.1, p.2) (fails_refuses (profile_of c.args.profile) _ _ _ _ _ _ _ c.in_err-size.ensures.fails)

pub returns-in-Some-clause-accepts : goal.returns-in-Some-clause-accepts
returns-in-Some-clause-accepts g c = let h = rw c.in-Some.is at c.in_ok-size.ensures.forwarded in forwarded_accepts _ _ _ _ _ _ h

pub returns-in-Some-clause-empty : goal.returns-in-Some-clause-empty
returns-in-Some-clause-empty g c = let h = rw c.in-Some.is at c.in_ok-size.ensures.forwarded in forwarded_empty _ _ _ _ _ _ h

pub returns-in-Some-clause-refuses : goal.returns-in-Some-clause-refuses
returns-in-Some-clause-refuses g c = let h = rw c.in-Some.is at c.in_ok-size.ensures.forwarded in forwarded_refuses _ _ _ _ _ _ h

pub returns-in-None-clause-accepts : goal.returns-in-None-clause-accepts
returns-in-None-clause-accepts g c = let h = rw c.in-None.is at c.in_ok-size.ensures.none in none_accepts (profile_of c.args.profile) _ (at_end_before _ _ h.0 h.1)
