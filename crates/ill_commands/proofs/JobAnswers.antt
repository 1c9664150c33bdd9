-- Which result an input has.
use Rattle.std.proofs.Common.{◌≡◌, ◌⊎◌, ℕ, ◌+◌, ◌<◌, ◌≤◌, Bool, List, [], ◌∷◌, length, take, Option, Some, None, Result, Ok, Err, IfSome, refl, sym, ap, subst, ◌∙◌, inl, inr, arith}
use Rattle.std.specs.Prelude.{IfOk, IfErr}
use Rattle.std.specs.Io.KnownBytes.{Consumes, IsAtEnd}
use Rattle.ber_leaf.specs.Profile.{Profile}
use Rattle.ill_schema.specs.Profiles.{profile_of}
use Rattle.ill_schema.specs.Apdu.{Apdu, Accepts}
use Rattle.ill_schema.proofs.Streams.{parts_accept, accepts_once, accepts_some, take_front, tails}
use Rattle.ill_refusals.specs.Fault.{Fault, fault_of}
use Rattle.ill_refusals.specs.Outcome.{OnlyRefuses}
use Rattle.ill_tables.specs.declared.profile.Profile.{Profile as Named}
use Rattle.ill_inputs.proofs.TakenOctets.{front}
use Rattle.ill_normal.specs.Messages.{Spelling, AreSpelledIn}
use Rattle.ill_normal.proofs.LongestStreams.{nothing_over, no_longer, one_rest}
use Rattle.ill_normal.proofs.StoppedReading.{spelled_front}
use Rattle.ill_normal.proofs.NormalStreams.{apdus_of, as_many, stream_of}
use Rattle.ill_normal.specs.Calls.{taking, putting}
use Rattle.ill_inputs.specs.declared.verdict.Verdict.{Verdict}
use Rattle.ill_commands.specs.declared.job.JobOptions.{JobOptions}
use Rattle.ill_inputs.specs.declared.run_fault.RunFault.{RunFault}
use Rattle.ill_commands.specs.Output.{verdict_of}
use Rattle.ill_inputs.specs.Inputs.{IsResourceFault}
use Rattle.ill_commands.specs.Runs.{WritesMessages, Stops, JobStopsAfter, Done, AnswersVerdict, IsRefusedMessage, AnswersRefused, AnswersFault}

pub same_spelling : (m n : Spelling) → m.apdu ≡ n.apdu → m.octets ≡ n.octets → m ≡ n
same_spelling m n e f = ap (λ (a : Apdu). let x : Spelling = record { apdu = a; octets = m.octets } in x) e ∙ ap (λ (o : List ℕ). let x : Spelling = record { apdu = n.apdu; octets = o } in x) f

-- octets are messages to their end in one way
pub one_reading : (p : Profile) (s : List ℕ) (ms ns : List Spelling) → AreSpelledIn p s ms [] → AreSpelledIn p s ns [] → ms ≡ ns
one_reading p s [] [] h k = refl
one_reading p s [] (n ∷ ns) h k = absurd (accepts_some p s n.apdu (length n.octets) h (parts_accept p s n.apdu n.octets k.0 k.1 k.2))
one_reading p s (m ∷ ms) [] h k = absurd (accepts_some p s m.apdu (length m.octets) k (parts_accept p s m.apdu m.octets h.0 h.1 h.2))
one_reading p s (m ∷ ms) (n ∷ ns) h k =
    let same = accepts_once p s m.apdu n.apdu (length m.octets) (length n.octets) (parts_accept p s m.apdu m.octets h.0 h.1 h.2) (parts_accept p s n.apdu n.octets k.0 k.1 k.2) in
    let octets : m.octets ≡ n.octets =
    sym (take_front m.octets h.0) ∙ ap (λ l. take (length m.octets) l) (sym h.1) ∙ ap (λ (i : ℕ). take i s) same.1 ∙ ap (λ l. take (length n.octets) l) k.1 ∙ take_front n.octets k.0 in
    let rest : h.0 ≡ k.0 = tails m.octets n.octets h.0 k.0 octets (sym h.1 ∙ k.1) in
    let more = one_reading p h.0 ms ns h.3 (subst (λ z. AreSpelledIn p z ns []) (sym rest) k.3) in
    ap (λ (x : Spelling). x ∷ ms) (same_spelling m n same.0 octets) ∙ ap (λ (xs : List Spelling). n ∷ xs) more

-- what was taken of s, and what is left
pub taken_of : (work : JobOptions) (s : List ℕ) (left' held held' : Option (List ℕ)) (ms : List Spelling) → WritesMessages work (Some s) left' held held' ms
    → (r : List ℕ) × (left' ≡ Some r) × AreSpelledIn (profile_of work.profile) s ms r
taken_of work s left' held held' ms w =
    let t = front s left' w.octets w.taken in
    (t.0, t.2, subst (λ z. AreSpelledIn (profile_of work.profile) z ms t.0) (sym t.1) (spelled_front work.profile w.octets t.0 ms w.spelled))

not_none : (r : List ℕ) → 0 < length r → r ≡ [] → ⊥
not_none r h e = let z : length r ≡ 0 = ap length e in omega arith

some_left : (rest left' : Option (List ℕ)) (octet : ℕ) → Consumes rest left' (octet ∷ []) → IfSome rest (λ r. 0 < length r)
some_left None left' octet h = tt
some_left (Some r) left' octet h = let t = front r left' (octet ∷ []) h in let e : length r ≡ length (octet ∷ t.0) = ap length t.1 in omega arith

-- two readings of s up to where nothing more is read are as long, and leave the same
longest : (p : Named) (s r t : List ℕ) (ms ns : List Spelling) → AreSpelledIn (profile_of p) s ms r → ((a : Apdu) (n : ℕ) → Accepts (profile_of p) r a n → ⊥)
    → AreSpelledIn (profile_of p) s ns t → length ns ≤ length ms
longest p s r t ms ns h over k =
    let le = no_longer (profile_of p) s r t (apdus_of ms) (apdus_of ns) (stream_of p s r ms h) over (stream_of p s t ns k) in omega (arith, le, as_many ms, as_many ns)

one_left : (p : Named) (s r t : List ℕ) (ms ns : List Spelling) → AreSpelledIn (profile_of p) s ms r → AreSpelledIn (profile_of p) s ns t → length ms ≡ length ns → r ≡ t
one_left p s r t ms ns h k e =
    one_rest (profile_of p) s r t (apdus_of ms) (apdus_of ns) (stream_of p s r ms h) (stream_of p s t ns k) (omega (arith, e, as_many ms, as_many ns))

over : (p : Profile) (a : Apdu) (n : ℕ) → Accepts p [] a n → ⊥
over p a n h = nothing_over p [] refl a n h

module _ (work : JobOptions) (s : List ℕ) (left' held held' : Option (List ℕ)) where
  abbrev q : Profile
  q = profile_of work.profile

  module _ (v : Verdict) (d : Done work (Some s) left' held held' v) where
    whole : AreSpelledIn q s d.messages []
    whole =
        let t = taken_of work s left' held held' d.messages d.writes in
        let none : t.0 ≡ [] = subst IsAtEnd t.1 d.end in
        subst (AreSpelledIn q s d.messages) none t.2

    pub done_does : (ms : List Spelling) → AreSpelledIn q s ms [] → v ≡ verdict_of q work.job ms
    unfolding whole
    done_does ms h = d.is_verdict ∙ ap (verdict_of q work.job) (one_reading q s d.messages ms whole h)

    pub done_refuses : (rest : List ℕ) (ms : List Spelling) (f : Fault) → AreSpelledIn q s ms rest → 0 < length rest → OnlyRefuses q rest f → ⊥
    done_refuses rest ms f h some only =
        let a = longest work.profile s [] rest d.messages ms whole (over q) h in
        let b = longest work.profile s rest [] ms d.messages h only.2 whole in
        not_none rest some (one_left work.profile s rest [] ms d.messages h whole (omega (arith, a, b)))

    pub done_many : (rest : List ℕ) (ms : List Spelling) → AreSpelledIn q s ms rest → length ms ≡ 1_000_000 → 0 < length rest → ⊥
    done_many rest ms h many some =
        let a = longest work.profile s [] rest d.messages ms whole (over q) h in
        not_none rest some (one_left work.profile s rest [] ms d.messages h whole (omega (arith, a, many, d.few)))

  module _ (x y : Bool) (ms : List Spelling) (rest grown : Option (List ℕ)) (w : WritesMessages work (Some s) rest held grown ms) where
    -- what is left where a job stops
    left_then : (Q : List ℕ → Type 0) → IfSome rest Q → (r : List ℕ) × AreSpelledIn q s ms r × Q r
    left_then Q q = let t = taken_of work s rest held grown ms w in (t.0, t.2, subst (λ o. IfSome o Q) t.1 q)

    stop_does : (e : RunFault) → Stops work (taking rest left' x) (putting grown held' y) held ms e → (ns : List Spelling) → AreSpelledIn q s ns [] → length ns ≤ 1_000_000 → IsResourceFault e
    stop_does (RunFault.Refused message refusal) h ns k le =
        let t = left_then _ h.2 in
        let a = longest work.profile s t.0 [] ms ns t.1 t.2.1.2 k in
        let b = longest work.profile s [] t.0 ns ms k (over q) t.1 in
        absurd (not_none t.0 t.2.0 (one_left work.profile s t.0 [] ms ns t.1 k (omega (arith, a, b))))
    stop_does RunFault.TooManyMessages h ns k le =
        let t = left_then _ (some_left rest left' h.1.0 h.1.1) in
        let b = longest work.profile s [] t.0 ns ms k (over q) t.1 in
        absurd (not_none t.0 t.2 (one_left work.profile s t.0 [] ms ns t.1 k (omega (arith, b, h.0, le))))
    stop_does RunFault.OutOfMemory h ns k le = tt
    stop_does RunFault.ReadFault h ns k le = tt
    stop_does (RunFault.WriteFault n) h ns k le = tt
    stop_does (RunFault.RefusedSide side refusal) h ns k le = absurd h
    stop_does RunFault.OddHex h ns k le = absurd h
    stop_does (RunFault.BadHex n) h ns k le = absurd h
    stop_does RunFault.HexTooLong h ns k le = absurd h
    stop_does RunFault.NotReported h ns k le = absurd h

    stop_refuses : (e : RunFault) → Stops work (taking rest left' x) (putting grown held' y) held ms e → (r : List ℕ) (ns : List Spelling) (f : Fault) → AreSpelledIn q s ns r → length ns < 1_000_000
        → 0 < length r → OnlyRefuses q r f → IsRefusedMessage e (length ns + 1) f
    stop_refuses (RunFault.Refused message refusal) h r ns f k lt some only =
        let t = left_then _ h.2 in
        let a = longest work.profile s t.0 r ms ns t.1 t.2.1.2 k in
        let b = longest work.profile s r t.0 ns ms k only.2 t.1 in
        let e : t.0 ≡ r = one_left work.profile s t.0 r ms ns t.1 k (omega (arith, a, b)) in
        (omega (arith, a, b, h.0), only.1 (fault_of refusal) (subst (λ z. OnlyRefuses q z (fault_of refusal)) e t.2.1).0)
    stop_refuses RunFault.TooManyMessages h r ns f k lt some only =
        let t = left_then _ (some_left rest left' h.1.0 h.1.1) in
        let b = longest work.profile s r t.0 ns ms k only.2 t.1 in
        absurd (omega (arith, b, h.0, lt))
    stop_refuses RunFault.OutOfMemory h r ns f k lt some only = tt
    stop_refuses RunFault.ReadFault h r ns f k lt some only = tt
    stop_refuses (RunFault.WriteFault n) h r ns f k lt some only = tt
    stop_refuses (RunFault.RefusedSide side refusal) h r ns f k lt some only = absurd h
    stop_refuses RunFault.OddHex h r ns f k lt some only = absurd h
    stop_refuses (RunFault.BadHex n) h r ns f k lt some only = absurd h
    stop_refuses RunFault.HexTooLong h r ns f k lt some only = absurd h
    stop_refuses RunFault.NotReported h r ns f k lt some only = absurd h

    stop_many : (e : RunFault) → Stops work (taking rest left' x) (putting grown held' y) held ms e → (r : List ℕ) (ns : List Spelling) → AreSpelledIn q s ns r → length ns ≡ 1_000_000
        → 0 < length r → (e ≡ RunFault.TooManyMessages) ⊎ IsResourceFault e
    stop_many (RunFault.Refused message refusal) h r ns k many some =
        let t = left_then _ h.2 in
        let a = longest work.profile s t.0 r ms ns t.1 t.2.1.2 k in
        absurd (omega (arith, a, h.1, many))
    stop_many RunFault.TooManyMessages h r ns k many some = inl refl
    stop_many RunFault.OutOfMemory h r ns k many some = inr tt
    stop_many RunFault.ReadFault h r ns k many some = inr tt
    stop_many (RunFault.WriteFault n) h r ns k many some = inr tt
    stop_many (RunFault.RefusedSide side refusal) h r ns k many some = absurd h
    stop_many RunFault.OddHex h r ns k many some = absurd h
    stop_many (RunFault.BadHex n) h r ns k many some = absurd h
    stop_many RunFault.HexTooLong h r ns k many some = absurd h
    stop_many RunFault.NotReported h r ns k many some = absurd h

  -- the result of messages of which s is made
  module _ (x y : Bool) where
    pub does : (answer : Result Verdict RunFault) → IfOk answer (Done work (Some s) left' held held') → IfErr answer (JobStopsAfter work (taking (Some s) left' x) (putting held held' y))
        → (ms : List Spelling) → AreSpelledIn q s ms [] → length ms ≤ 1_000_000 → AnswersVerdict answer (verdict_of q work.job ms)
    does (Ok v) d n ms h le = done_does v d ms h
    does (Err e) d n ms h le = stop_does x y n.messages n.rest n.grown n.writes e n.stops ms h le

    pub refuses : (answer : Result Verdict RunFault) → IfOk answer (Done work (Some s) left' held held') → IfErr answer (JobStopsAfter work (taking (Some s) left' x) (putting held held' y))
        → (rest : List ℕ) (ms : List Spelling) (f : Fault) → AreSpelledIn q s ms rest → length ms < 1_000_000 → 0 < length rest → OnlyRefuses q rest f
        → AnswersRefused answer (length ms + 1) f
    refuses (Ok v) d n rest ms f h lt some only = absurd (done_refuses v d rest ms f h some only)
    refuses (Err e) d n rest ms f h lt some only = stop_refuses x y n.messages n.rest n.grown n.writes e n.stops rest ms f h lt some only

    pub refuses_more : (answer : Result Verdict RunFault) → IfOk answer (Done work (Some s) left' held held') → IfErr answer (JobStopsAfter work (taking (Some s) left' x) (putting held held' y))
        → (rest : List ℕ) (ms : List Spelling) → AreSpelledIn q s ms rest → length ms ≡ 1_000_000 → 0 < length rest → AnswersFault answer RunFault.TooManyMessages
    refuses_more (Ok v) d n rest ms h many some = absurd (done_many v d rest ms h many some)
    refuses_more (Err e) d n rest ms h many some = stop_many x y n.messages n.rest n.grown n.writes e n.stops rest ms h many some
