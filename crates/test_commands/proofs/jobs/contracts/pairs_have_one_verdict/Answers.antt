use Rattle.std.proofs.Common.{◌≡◌, ◌↔◌, ◌++◌, ◌∙◌, ℕ, Bool, List, Option, Some, Result, Ok, Err, IfOk, refl, sym, ap₂, subst}
use Rattle.ber_leaf.specs.Profile.{Profile}
use Rattle.ill_schema.specs.Profiles.{profile_of}
use Rattle.ill_commands.specs.Compared.{ComparesBoth, SameDone, SaysSame, verdict_line}
use Rattle.ill_inputs.specs.Inputs.{IsResourceFault}
use Rattle.ill_inputs.specs.declared.run_fault.RunFault.{RunFault}
use Rattle.ill_inputs.specs.declared.verdict.Verdict.{Verdict}
use Rattle.ill_commands.proofs.PairAnswers.{side_is}
use Rattle.test_commands.proofs.jobs.contracts.pairs_have_one_verdict.Goals as goal

-- what a verdict leaves to another result
abbrev Follows : Verdict → Result Verdict RunFault → Type 0
Follows v (Ok w) = v ≡ w
Follows v (Err e) = IsResourceFault e

same_verdict : (v w : Verdict) (P : Type 0) → (v ≡ Verdict.Good) ↔ P → (w ≡ Verdict.Good) ↔ P → v ≡ w
same_verdict Verdict.Good w P p q = sym (q.1 (p.0 refl))
same_verdict Verdict.NotGood Verdict.Good P p q = p.1 (q.0 refl)
same_verdict Verdict.NotGood Verdict.NotGood P p q = refl

follows : (v : Verdict) (P : Type 0) (r : Result Verdict RunFault) → (v ≡ Verdict.Good) ↔ P → SaysSame r P → Follows v r
follows v P (Ok w) p q = same_verdict v w P p q
follows v P (Err e) p q = q

once : (n : Profile) (hex : Bool) (s s' t t' a b : List ℕ) (held held' : Option (List ℕ)) (q r : Result Verdict RunFault) (v : Verdict) → s ≡ s' → t ≡ t' → q ≡ Ok v
    → IfOk q (SameDone n hex (Some s) (Some a) (Some t) (Some b) held held') → ComparesBoth n hex s' t' r → Follows v r
once n hex s s' t t' a b held held' q r v e f p d compares =
    let d' = subst (λ x. IfOk x (SameDone n hex (Some s) (Some a) (Some t) (Some b) held held')) p d in
    let k = subst (λ x. ComparesBoth n hex x t r) (sym e) (subst (λ x. ComparesBoth n hex s' x r) (sym f) compares) in
    let c = d'.compares in
    follows v (c.0 ≡ c.1) r c.4
    (k d'.first d'.second c.0 c.1 (side_is hex s (Some a) d'.first d'.reads_first) (side_is hex t (Some b) d'.second d'.reads_second) c.2 c.3)

pub returns-clause-verdict : goal.returns-clause-verdict
returns-clause-verdict c v w p q =
    subst (λ r. Follows v r) q (once (profile_of c.args.profile) c.args.hex c.args.first.now.octets c.args.other_first.now.octets c.args.second.now.octets c.args.other_second.now.octets
    c.run_same_as.new.first.octets c.run_same_as.new.second.octets (Some c.args.sink.now.octets) (Some c.run_same_as.new.sink.octets) c.run_same_as.result c.run_same_as-2.result v c.requires.first c.requires.second p
    c.run_same_as.ensures.done c.run_same_as-2.ensures.compares)

pub returns-clause-fault : goal.returns-clause-fault
returns-clause-fault c v e p q =
    subst (λ r. Follows v r) q (once (profile_of c.args.profile) c.args.hex c.args.first.now.octets c.args.other_first.now.octets c.args.second.now.octets c.args.other_second.now.octets
    c.run_same_as.new.first.octets c.run_same_as.new.second.octets (Some c.args.sink.now.octets) (Some c.run_same_as.new.sink.octets) c.run_same_as.result c.run_same_as-2.result v c.requires.first c.requires.second p
    c.run_same_as.ensures.done c.run_same_as-2.ensures.compares)

line : (n : Profile) (hex : Bool) (left left' other other' : Option (List ℕ)) (held new : List ℕ) (r : Result Verdict RunFault) (v : Verdict) → r ≡ Ok v → IfOk r (SameDone n hex left left' other other' (Some held) (Some new)) → new ≡ held ++ verdict_line v
line n hex left left' other other' held new r v p d = (subst (λ x. IfOk x (SameDone n hex left left' other other' (Some held) (Some new))) p d).written

pub returns-clause-line : goal.returns-clause-line
returns-clause-line c v w p q =
    let one = line (profile_of c.args.profile) c.args.hex _ _ _ _ c.args.sink.now.octets c.run_same_as.new.sink.octets c.run_same_as.result v p c.run_same_as.ensures.done in
    let two = line (profile_of c.args.profile) c.args.hex _ _ _ _ c.args.other_sink.now.octets c.run_same_as-2.new.sink.octets c.run_same_as-2.result w q c.run_same_as-2.ensures.done in
    let same : v ≡ w =
    subst (λ r. Follows v r) q (once (profile_of c.args.profile) c.args.hex c.args.first.now.octets c.args.other_first.now.octets c.args.second.now.octets c.args.other_second.now.octets
    c.run_same_as.new.first.octets c.run_same_as.new.second.octets (Some c.args.sink.now.octets) (Some c.run_same_as.new.sink.octets) c.run_same_as.result c.run_same_as-2.result v c.requires.first c.requires.second p
    c.run_same_as.ensures.done c.run_same_as-2.ensures.compares) in
    one ∙ ap₂ (λ x y. x ++ verdict_line y) c.requires.sink same ∙ sym two
