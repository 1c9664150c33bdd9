use Rattle.std.proofs.Common.{◌≤◌, length, length-take, take, refl, IfSome, subst, arith}
use Rattle.ill_schema.specs.Profiles.{profile_of}
use Rattle.ill_read.specs.Answers.{IsNormalIn}
use Rattle.ill_read.specs.code.Usual.{IsNormalFormOf}
use Rattle.ill_read.proofs.UsualMessages.{usual_broken, usual_read}
use Rattle.ill_read.proofs.normal.read_normal.Goals as goal

pub returns-in-Ok-consume : goal.returns-in-Ok-consume
returns-in-Ok-consume g c =
    let p = c.args.profile in
    let all = c.buffered-hand.result.now in
    let hand = take c.min.result all in
    let n = c.in-Some.taken in
    let le = subst (λ o. IfSome o (λ n. n ≤ length hand)) c.in-Some.is c.in-Ok.ensures.taken in
    let normal = subst (λ o. IfSome o (λ n. IsNormalFormOf (profile_of p) c.usual_form.new.buffer.items (take n hand))) c.in-Some.is c.in-Ok.ensures.normal in
    usual_read p (IsNormalIn (profile_of p)) _ _ _ _ all c.min.result n _ _ c.buffered-hand.ensures.front le normal (normal.0, normal.1, normal.2, omega (arith, length-take n hand, le)) c.in-Ok-consume.ensures.octets c.in-Ok-consume.ensures.stays

pub returns-in-Err : goal.returns-in-Err
returns-in-Err g c =
    let p = c.args.profile in
    let all = c.buffered-hand.result.now in
    let hand = take c.min.result all in
    let n = c.in-Some.taken in
    let le = subst (λ o. IfSome o (λ n. n ≤ length hand)) c.in-Some.is c.in-Ok.ensures.taken in
    let normal = subst (λ o. IfSome o (λ n. IsNormalFormOf (profile_of p) c.usual_form.new.buffer.items (take n hand))) c.in-Some.is c.in-Ok.ensures.normal in
    usual_broken p (IsNormalIn (profile_of p)) _ _ _ _ all c.min.result n _ c.buffered-hand.ensures.front le normal c.in-Err.ensures.part (c.in-Err.ensures.breaks refl)
