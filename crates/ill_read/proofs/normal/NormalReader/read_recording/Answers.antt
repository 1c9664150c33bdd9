use Rattle.std.proofs.Common.{◌≤◌, ℕ, List, length, length-take, take, refl, IfSome, subst, arith}
use Rattle.std.specs.Io.KnownBytes.{Appends}
use Rattle.ill_schema.specs.Profiles.{profile_of}
use Rattle.ill_read.specs.Answers.{IsNormalIn}
use Rattle.ill_read.specs.code.Usual.{IsNormalFormOf}
use Rattle.ill_read.specs.declared.normal.NormalForm.{NormalForm}
use Rattle.ill_read.proofs.UsualMessages.{usual_broken, usual_read}
use Rattle.ill_read.proofs.normal.NormalReader.read_recording.Goals as goal

pub returns-in-Ok-consume-clause-next : goal.returns-in-Ok-consume-clause-next
returns-in-Ok-consume-clause-next g c =
    let p = c.args.profile in
    let all = c.buffered-hand.result.now in
    let hand = take c.min.result all in
    let n = c.in-Some.taken in
    let le = subst (λ o. IfSome o (λ n. n ≤ length hand)) c.in-Some.is c.in-Ok.ensures.taken in
    let normal = subst (λ o. IfSome o (λ n. IsNormalFormOf (profile_of p) c.usual_front.new.buffer.items (take n hand))) c.in-Some.is c.in-Ok.ensures.normal in
    let Is : NormalForm → List ℕ → Type 0 = λ m octets. IsNormalIn (profile_of p) m octets × Appends (g.K.Recorder.recorded c.args.recorded.now) (g.K.Recorder.recorded c.append.new.self) octets in
    usual_read p Is _ _ _ _ all c.min.result n _ _ c.buffered-hand.ensures.front le normal ((normal.0, normal.1, normal.2, omega (arith, length-take n hand, le)), c.in_default-append.ensures)
    c.in-Ok-consume.ensures.octets c.in-Ok-consume.ensures.stays

pub returns-in-Err-consume-clause-next : goal.returns-in-Err-consume-clause-next
returns-in-Err-consume-clause-next g c =
    let p = c.args.profile in
    let all = c.buffered-hand.result.now in
    let hand = take c.min.result all in
    let n = c.in-Some.taken in
    let le = subst (λ o. IfSome o (λ n. n ≤ length hand)) c.in-Some.is c.in-Ok.ensures.taken in
    let normal = subst (λ o. IfSome o (λ n. IsNormalFormOf (profile_of p) c.usual_front.new.buffer.items (take n hand))) c.in-Some.is c.in-Ok.ensures.normal in
    let Is : NormalForm → List ℕ → Type 0 = λ m octets. IsNormalIn (profile_of p) m octets × Appends (g.K.Recorder.recorded c.args.recorded.now) (g.K.Recorder.recorded c.append.new.self) octets in
    usual_broken p Is _ _ _ _ all c.min.result n _ c.buffered-hand.ensures.front le normal c.in-Err-consume.ensures.part (c.in-Err-consume.ensures.breaks refl)
