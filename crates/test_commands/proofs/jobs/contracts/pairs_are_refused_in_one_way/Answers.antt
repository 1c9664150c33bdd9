use Rattle.std.proofs.Common.{◌≡◌, ◌+◌, ◌≤◌, ℕ, Bool, false, List, length, Option, Some, Result, Ok, Err, IfOk, IfErr, sym, subst, inl, inr}
use Rattle.ber_leaf.specs.Profile.{Profile}
use Rattle.ill_schema.specs.Profiles.{profile_of}
use Rattle.ill_schema.specs.declared.refusal.Refusal.{Refusal}
use Rattle.ill_refusals.specs.Fault.{fault_of}
use Rattle.ill_refusals.proofs.Refusals.{same_refusal}
use Rattle.ill_inputs.specs.declared.side.Side.{Side}
use Rattle.ill_normal.specs.Calls.{taking, putting}
use Rattle.ill_commands.specs.Compared.{AnswersSide, RefusesOne, SameDone, SameFails, SameStops}
use Rattle.ill_inputs.specs.declared.run_fault.RunFault.{RunFault}
use Rattle.ill_inputs.specs.declared.verdict.Verdict.{Verdict}
use Rattle.ill_commands.proofs.PairAnswers.{side_is}
use Rattle.test_commands.proofs.Bounds.{bounded, unread_bound}
use Rattle.test_commands.proofs.jobs.contracts.pairs_are_refused_in_one_way.Goals as goal

stopped : (n : Profile) (s t a b : List ℕ) (held held' : Option (List ℕ)) (u w z : Bool) (r : Result Verdict RunFault) (side : Side) (x : Refusal)
    → SameStops n false (taking (Some s) (Some a) u) (taking (Some t) (Some b) w) (putting held held' z) (RunFault.RefusedSide side x) → RefusesOne n false s t r → AnswersSide r side (fault_of x)
stopped n s t a b held held' u w z r side x h one = elim h.stops [
  | inl n ↦
      one h.first h.second side (fault_of x) (side_is false s (Some a) h.first h.reads_first) (side_is false t (Some b) h.second h.reads_second) n.0
  | inr n ↦ absurd n.2
]

refused : (n : Profile) (s t a b : List ℕ) (held held' : Option (List ℕ)) (u w z : Bool) (r : Result Verdict RunFault) (side : Side) (x : Refusal)
    → SameFails n false (taking (Some s) (Some a) u) (taking (Some t) (Some b) w) (putting held held' z) (RunFault.RefusedSide side x) → RefusesOne n false s t r → AnswersSide r side (fault_of x)
refused n s t a b held held' u w z r side x (inl h) one = absurd h.0
refused n s t a b held held' u w z r side x (inr (inl h)) one = absurd h.2
refused n s t a b held held' u w z r side x (inr (inr h)) one = stopped n s t a b held held' u w z r side x h one

once : (n : Profile) (s s' t t' a b : List ℕ) (held held' : Option (List ℕ)) (u w z : Bool) (q r : Result Verdict RunFault) (side other : Side) (x y : Refusal) → s ≡ s' → t ≡ t'
    → q ≡ Err (RunFault.RefusedSide side x) → r ≡ Err (RunFault.RefusedSide other y)
    → IfErr q (SameFails n false (taking (Some s) (Some a) u) (taking (Some t) (Some b) w) (putting held held' z)) → RefusesOne n false s' t' r → (side ≡ other) × (x ≡ y)
once n s s' t t' a b held held' u w z q r side other x y e f p p' fails one =
    let h = subst (λ v. IfErr v (SameFails n false (taking (Some s) (Some a) u) (taking (Some t) (Some b) w) (putting held held' z))) p fails in
    let k = subst (λ v. RefusesOne n false v t r) (sym e) (subst (λ v. RefusesOne n false s' v r) (sym f) one) in
    let reported = subst (λ v. AnswersSide v side (fault_of x)) p' (refused n s t a b held held' u w z r side x h k) in
    (sym reported.0, sym (same_refusal y x reported.1))

failed : (n : Profile) (s a : List ℕ) (t b held held' : Option (List ℕ)) (u w z : Bool) (e : RunFault) → SameFails n false (taking (Some s) (Some a) u) (taking t b w) (putting held held' z) e → length s ≤ 1_048_577 + length a
failed n s a t b held held' u w z e (inl h) = unread_bound 1_048_577 s a u e h.0
failed n s a t b held held' u w z e (inr (inl h)) = bounded 1_048_577 s a h.0 h.1.0 h.1.1
failed n s a t b held held' u w z e (inr (inr h)) = bounded 1_048_577 s a h.first h.reads_first.0 h.reads_first.1

taken : (n : Profile) (s a : List ℕ) (t b held held' : Option (List ℕ)) (u w z : Bool) (r : Result Verdict RunFault) → IfOk r (SameDone n false (Some s) (Some a) t b held held')
    → IfErr r (SameFails n false (taking (Some s) (Some a) u) (taking t b w) (putting held held' z)) → length s ≤ 1_048_577 + length a
taken n s a t b held held' u w z (Ok v) d f = bounded 1_048_577 s a d.first d.reads_first.0 d.reads_first.1
taken n s a t b held held' u w z (Err e) d f = failed n s a t b held held' u w z e f

pub returns-clause-refusal : goal.returns-clause-refusal
returns-clause-refusal c s t x y p q =
    once (profile_of c.args.profile) c.args.first.now.octets c.args.other_first.now.octets c.args.second.now.octets c.args.other_second.now.octets
    c.run_same_as.new.first.octets c.run_same_as.new.second.octets (Some c.args.sink.now.octets) (Some c.run_same_as.new.sink.octets) c.run_same_as.new.first.broken c.run_same_as.new.second.broken c.run_same_as.new.sink.broken c.run_same_as.result c.run_same_as-2.result s t x y c.requires.first c.requires.second p q
    c.run_same_as.ensures.fails c.run_same_as-2.ensures.refuses

pub returns-clause-taken : goal.returns-clause-taken
returns-clause-taken c =
    taken (profile_of c.args.profile) c.args.first.now.octets c.run_same_as.new.first.octets (Some c.args.second.now.octets) (Some c.run_same_as.new.second.octets) (Some c.args.sink.now.octets) (Some c.run_same_as.new.sink.octets) c.run_same_as.new.first.broken c.run_same_as.new.second.broken c.run_same_as.new.sink.broken c.run_same_as.result c.run_same_as.ensures.done c.run_same_as.ensures.fails
