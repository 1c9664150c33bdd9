use Rattle.ill_schema.specs.Profiles.{profile_of}
use Rattle.std.proofs.Common.{◌≡◌, ◌<◌, Bool, Result, get_or, length, IsTrue, Ok, Err, drop, sym, ap, subst, ◌∙◌, arith, inl}
use Rattle.ber_tree.specs.Octets.{are_octets}
use Rattle.ber_tree.proofs.Octets.{octets_fit}
use Rattle.ill_schema.specs.declared.refusal.Cause.{Cause}
use Rattle.ill_schema.specs.declared.refusal.Refusal.{Refusal}
use Rattle.ill_read.specs.Answers.{NormalAnswersIn}
use Rattle.ill_read.specs.code.OctetDrafts.{AreNormal, AreOctets}
use Rattle.ill_read.specs.code.ReaderCode.{HasOutcome}
use Rattle.ill_read.specs.declared.failure.Failure.{Failure}
use Rattle.ill_read.proofs.ClosedElements.{handed_on}
use Rattle.ill_read.proofs.MessageEnds.{normal_fails, normal_trails, normal_whole, runs}
use Rattle.ill_read.proofs.normal.NormalReader.decode_any.Goals as goal

pub returns-in_err-outcome-clause-answers : goal.returns-in_err-outcome-clause-answers
returns-in_err-outcome-clause-answers c =
    let p = c.args.profile in
    let w = c.args.octets.now in
    let ok : IsTrue (are_octets w) = octets_fit w (λ k. let small : get_or w k 0 < 256 = omega (arith, c.type_inv.octets k) in small) in
    let available_len = c.outcome.ensures p w (drop c.read_elements.result w) (c.read_elements.ensures.stopped p w (runs p AreOctets AreNormal c.restart.new.self w ok (c.restart.ensures.«open» (c.new.ensures p)))) in
    let refused = subst (λ (e : Result Bool Failure). HasOutcome p AreNormal c.read_elements.new.self w e) c.in_err-outcome.was available_len in
    handed_on (NormalAnswersIn (profile_of p) w) c.from_residual.result c.in_err-outcome.field-0.0 c.from_residual.ensures.1 (normal_fails p w c.in_err-outcome.field-0.0 refused)

pub overflow_cast-octets : goal.overflow_cast-octets
overflow_cast-octets c =
    let p = c.args.profile in
    let w = c.args.octets.now in
    let ok : IsTrue (are_octets w) = octets_fit w (λ k. let small : get_or w k 0 < 256 = omega (arith, c.type_inv.octets k) in small) in
    let available_len = c.outcome.ensures p w (drop c.read_elements.result w) (c.read_elements.ensures.stopped p w (runs p AreOctets AreNormal c.restart.new.self w ok (c.restart.ensures.«open» (c.new.ensures p)))) in
    let read = subst (λ (e : Result Bool Failure). HasOutcome p AreNormal c.read_elements.new.self w e) (c.in_ok-outcome.was ∙ ap Ok c.if-not-branch.true) available_len in
    let small = read.1 in
    omega (arith, small)

pub returns-then-not-branch-clause-answers : goal.returns-then-not-branch-clause-answers
returns-then-not-branch-clause-answers c =
    let p = c.args.profile in
    let w = c.args.octets.now in
    let ok : IsTrue (are_octets w) = octets_fit w (λ k. let small : get_or w k 0 < 256 = omega (arith, c.type_inv.octets k) in small) in
    let available_len = c.outcome.ensures p w (drop c.read_elements.result w) (c.read_elements.ensures.stopped p w (runs p AreOctets AreNormal c.restart.new.self w ok (c.restart.ensures.«open» (c.new.ensures p)))) in
    let read = subst (λ (e : Result Bool Failure). HasOutcome p AreNormal c.read_elements.new.self w e) (c.in_ok-outcome.was ∙ ap Ok c.if-not-branch.true) available_len in
    subst (λ r. NormalAnswersIn (profile_of p) w (Err r)) (sym c.refused.ensures) (inl read.0)

pub returns-then-input_len-octets-clause-answers : goal.returns-then-input_len-octets-clause-answers
returns-then-input_len-octets-clause-answers c =
    let p = c.args.profile in
    let w = c.args.octets.now in
    let ok : IsTrue (are_octets w) = octets_fit w (λ k. let small : get_or w k 0 < 256 = omega (arith, c.type_inv.octets k) in small) in
    let available_len = c.outcome.ensures p w (drop c.read_elements.result w) (c.read_elements.ensures.stopped p w (runs p AreOctets AreNormal c.restart.new.self w ok (c.restart.ensures.«open» (c.new.ensures p)))) in
    let read = subst (λ (e : Result Bool Failure). HasOutcome p AreNormal c.read_elements.new.self w e) (c.in_ok-outcome.was ∙ ap Ok c.if-not-branch.false) available_len in
    let n = c.read_elements.new.self.at in
    let at : c.offset-input_len.result ≡ n = c.offset-input_len.ensures in
    let other : n ≡ length w → ⊥ = λ e. c.if-input_len-octets.true (at ∙ e) in
    subst (λ r. NormalAnswersIn (profile_of p) w (Err r)) (sym c.refused-then-input_len-octets.ensures)
    (subst (λ k. NormalAnswersIn (profile_of p) w (Err (Failure.Refused (let q : Refusal = record { at = k; cause = Cause.TrailingBytes } in q)))) (sym at) (normal_trails p w read.0 n read.1 other))

pub returns-clause-answers : goal.returns-clause-answers
returns-clause-answers c =
    let p = c.args.profile in
    let w = c.args.octets.now in
    let ok : IsTrue (are_octets w) = octets_fit w (λ k. let small : get_or w k 0 < 256 = omega (arith, c.type_inv.octets k) in small) in
    let available_len = c.outcome.ensures p w (drop c.read_elements.result w) (c.read_elements.ensures.stopped p w (runs p AreOctets AreNormal c.restart.new.self w ok (c.restart.ensures.«open» (c.new.ensures p)))) in
    let read = subst (λ (e : Result Bool Failure). HasOutcome p AreNormal c.read_elements.new.self w e) (c.in_ok-outcome.was ∙ ap Ok c.if-not-branch.false) available_len in
    let all = c.if-input_len-octets.false in
    let size = sym c.offset-input_len.ensures ∙ all in
    (read.0, normal_whole p w read.0 c.read_elements.new.self.at read.1 size, c.normal.ensures.octets ∙ read.2, c.normal.ensures.input_len ∙ all)
