use Rattle.std.proofs.Common.{◌≡◌, ◌⊎◌, ℕ, Bool, true, List, Option, Some, Result, IfErr, sym, subst, inl, inr}
use Rattle.ber_leaf.specs.Profile.{Profile}
use Rattle.ill_schema.specs.Profiles.{profile_of}
use Rattle.ill_normal.specs.Calls.{taking, putting}
use Rattle.ill_commands.specs.Compared.{RefusesTexts, SameFails, SameStops}
use Rattle.ill_inputs.specs.Inputs.{IsResourceFault}
use Rattle.ill_commands.specs.Runs.{AnswersFault}
use Rattle.ill_inputs.specs.declared.run_fault.RunFault.{RunFault}
use Rattle.ill_inputs.specs.declared.verdict.Verdict.{Verdict}
use Rattle.ill_commands.proofs.PairAnswers.{no_text, side_is}
use Rattle.test_commands.proofs.jobs.contracts.texts_are_refused_in_order.Goals as goal

stopped : (n : Profile) (s t a b held held' : Option (List ℕ)) (u w z : Bool) → SameStops n true (taking s a u) (taking t b w) (putting held held' z) RunFault.OddHex → ⊥
stopped n s t a b held held' u w z h = elim h.stops [ inl k ↦ k.0 | inr k ↦ k.2 ]

odd : (n : Profile) (s t a b : List ℕ) (held held' : Option (List ℕ)) (u w z : Bool) (r : Result Verdict RunFault)
    → SameFails n true (taking (Some s) (Some a) u) (taking (Some t) (Some b) w) (putting held held' z) RunFault.OddHex → RefusesTexts true s t r → AnswersFault r RunFault.OddHex
odd n s t a b held held' u w z r (inl (inl h, k, l)) texts = texts.0 RunFault.OddHex (no_text s (Some a) RunFault.OddHex h)
odd n s t a b held held' u w z r (inl (inr h, k, l)) texts = absurd h
odd n s t a b held held' u w z r (inr (inl (o, reads, inl h, k))) texts =
    texts.1 o RunFault.OddHex (side_is true s (Some a) o reads) (no_text t (Some b) RunFault.OddHex h)
odd n s t a b held held' u w z r (inr (inl (o, reads, inr h, k))) texts = absurd h
odd n s t a b held held' u w z r (inr (inr h)) texts = absurd (stopped n (Some s) (Some t) (Some a) (Some b) held held' u w z h)

apart : (i : ℕ) → (RunFault.BadHex i ≡ RunFault.OddHex) ⊎ IsResourceFault (RunFault.BadHex i) → ⊥
apart i (inl e) = absurd cc
apart i (inr e) = e

pub returns : goal.returns
returns c i p q =
    let n = profile_of c.args.profile in
    let s = c.args.first.now.octets in
    let t = c.args.second.now.octets in
    let fails = subst (λ v. IfErr v (SameFails n true (taking (Some s) (Some c.run_same_as.new.first.octets) c.run_same_as.new.first.broken) (taking (Some t) (Some c.run_same_as.new.second.octets) c.run_same_as.new.second.broken) (putting (Some c.args.sink.now.octets) (Some c.run_same_as.new.sink.octets) c.run_same_as.new.sink.broken))) p c.run_same_as.ensures.fails in
    let texts = subst (λ v. RefusesTexts true v t c.run_same_as-2.result) (sym c.requires.first)
    (subst (λ v. RefusesTexts true c.args.other_first.now.octets v c.run_same_as-2.result) (sym c.requires.second) c.run_same_as-2.ensures.no_hex) in
    apart i (subst (λ v. AnswersFault v RunFault.OddHex) q (odd n s t c.run_same_as.new.first.octets c.run_same_as.new.second.octets (Some c.args.sink.now.octets) (Some c.run_same_as.new.sink.octets) c.run_same_as.new.first.broken c.run_same_as.new.second.broken c.run_same_as.new.sink.broken c.run_same_as-2.result fails texts))
