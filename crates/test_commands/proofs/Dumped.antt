-- What a dump of a known input says.
use Rattle.std.proofs.Common.{◌≡◌, suc, ◌+◌, ◌<◌, ◌≤◌, ℕ, Bool, false, true, List, [], ◌∷◌, ◌++◌, Option, Some, None, length, sym, ap, subst, ◌∙◌, inl, inr, arith, append_assoc, length-append, refl, append-nil}
use Rattle.std.proofs.lemmas.Bool.{cases_lt}
use Rattle.ber_leaf.specs.Profile.{Profile}
use Rattle.ill_schema.specs.Apdu.{Apdu, IsStream}
use Rattle.ill_schema.specs.Profiles.{profile_of}
use Rattle.ill_schema.specs.declared.refusal.Refusal.{Refusal}
use Rattle.ill_schema.proofs.Streams.{parts_accept, spells_some, stream_fewer}
use Rattle.ill_refusals.specs.Fault.{Fault, fault_of}
use Rattle.ill_refusals.specs.Outcome.{OnlyRefuses}
use Rattle.ill_inputs.specs.Inputs.{IsResourceFault}
use Rattle.ill_inputs.specs.declared.run_fault.RunFault.{RunFault}
use Rattle.std.specs.Prelude.{if◌then◌else◌}
use Rattle.std.specs.Io.KnownBytes.{Appends, Consumes}
use Rattle.std.proofs.KnownBytes.{Appends-trans}
use Rattle.ill_normal.specs.Calls.{Putting, putting, taking}
use Rattle.ill_normal.specs.Entries.{AreWritten}
use Rattle.ill_normal.specs.Items.{AreItems, Item, bad, good}
use Rattle.ill_normal.specs.Messages.{after, first}
use Rattle.ill_normal.specs.Items.{position_past}
use Rattle.ill_normal.specs.Reading.{AreAccepted, EndsFor, GoesPast, IsLast, ReadsInput, ReadsItems, RefusesRest, Reporting, last_of, reporting}
use Rattle.ill_normal.specs.declared.messages.MessagePlace.{MessagePlace}
use Rattle.ill_normal.specs.declared.messages.OnRefusal.{OnRefusal}
use Rattle.ill_normal.specs.declared.messages.StreamEnd.{StreamEnd}
use Rattle.ill_dump.specs.declared.run.DumpOptions.{DumpOptions}
use Rattle.ill_dump.specs.Dumped.{RunsDump, WritesLines, dumped, head, is_chosen, reading_of}
use Rattle.test_commands.specs.Heads.{AreHeaded}

front_none : (b t : List ℕ) → [] ≡ b ++ t → b ≡ []
front_none [] t e = cc
front_none (x ∷ b) t e = absurd cc

-- no octets are no message, and nothing is left of them
none_left : (p : Profile) (apdus : List Apdu) (rest : List ℕ) → IsStream p [] apdus rest → 0 < length rest → ⊥
none_left p [] rest h some = let z : 0 ≡ length rest = ap length h in omega arith
none_left p (a ∷ apdus) rest h some = spells_some p a h.0 h.3.encodes (front_none h.0 h.1 h.2)

-- octets that are refused are no messages
not_refused : (p : Profile) (apdus : List Apdu) (rest : List ℕ) (f : Fault) → IsStream p rest apdus [] → 0 < length rest → OnlyRefuses p rest f → ⊥
not_refused p [] rest f h some only = let z : length rest ≡ 0 = ap length h in omega arith
not_refused p (a ∷ apdus) rest f h some only = only.2 a (length h.0) (parts_accept p rest a h.0 h.1 h.2 h.3)

-- where all octets are messages, none is left after as many
pub no_more : (p : Profile) (s rest : List ℕ) (xs ys : List Apdu) → IsStream p s xs [] → IsStream p s ys rest → 0 < length rest → length xs ≤ length ys → ⊥
no_more p s rest xs ys h k some le = let m = stream_fewer p s [] rest xs ys h k le in none_left p m.0 rest m.2 some

pub none_refused : (p : Profile) (s rest : List ℕ) (xs ys : List Apdu) (f : Fault) → IsStream p s xs [] → IsStream p s ys rest → 0 < length rest → OnlyRefuses p rest f → ⊥
none_refused p s rest xs ys f h k some only = elim (cases_lt (length xs) (length ys)) [
  | inl lt ↦ no_more p s rest xs ys h k some (omega (arith, lt))
  | inr ge ↦ (let m = stream_fewer p s rest [] ys xs k h (omega (arith, ge)) in not_refused p m.0 rest f m.2 some only)
]

-- ---- messages none of which is refused

pub apdus_of : List Item → List Apdu
apdus_of [] = []
apdus_of (good m ∷ items) = m.apdu ∷ apdus_of items
apdus_of (bad octets refusal ∷ items) = apdus_of items

counted_apdus : (items : List Item) → AreAccepted items → length (apdus_of items) ≡ length items
unfolding apdus_of
counted_apdus [] h = refl
counted_apdus (good m ∷ items) h = omega (arith, counted_apdus items h)
counted_apdus (bad octets refusal ∷ items) h = absurd h

is_stream : (p : Profile) (s rest : List ℕ) (items : List Item) → AreItems p s items [] → AreAccepted items → IsStream p (s ++ rest) (apdus_of items) rest
unfolding apdus_of
is_stream p s rest [] h k = ap (λ l. l ++ rest) h
is_stream p s rest (good m ∷ items) h k = (m.octets, h.0 ++ rest, ap (λ l. l ++ rest) h.1 ∙ append_assoc m.octets h.0 rest, h.2, is_stream p h.0 rest items h.3 k)
is_stream p s rest (bad octets refusal ∷ items) h k = absurd k

-- where no one message is asked for, each is written
line_of : (dump : DumpOptions) → dump.only ≡ None → (j i : ℕ) → j ≡ i → (line more : List ℕ) → line ≡ dumped dump j more → line ≡ head dump i ++ more
line_of dump e j i ji line more is =
    let chosen : dumped dump j more ≡ head dump j ++ more = ap (λ o. if is_chosen o j then head dump j ++ more else []) e in
    is ∙ chosen ∙ ap (λ k. head dump k ++ more) ji

-- each has its head
headed : (dump : DumpOptions) → dump.only ≡ None → (p : MessagePlace) (i : ℕ) → p.number ≡ i → (items : List Item) → AreAccepted items → (n : ℕ) (octets : List ℕ)
    → AreWritten (WritesLines dump) p items n octets → AreHeaded dump i (length items) octets
headed dump e p i pi [] k n octets h = h.1
headed dump e p i pi (bad o refusal ∷ items) k n octets h = absurd k
headed dump e p i pi (good m ∷ items) k n octets h =
    (h.6.0, h.3, h.5 ∙ ap (λ l. l ++ h.3) (line_of dump e p.number i pi h.2 h.6.0 h.6.1), headed dump e (after p (length m.octets)) (i + 1) (ap (λ j. j + 1) pi) items k h.1 h.3 h.7)

-- the same, and one refused message after them
headed_last : (dump : DumpOptions) → dump.only ≡ None → (p : MessagePlace) (i : ℕ) → p.number ≡ i → (items : List Item) → AreAccepted items → (n : ℕ) (octets : List ℕ)
    → AreWritten (WritesLines dump) p items n octets → (last more : List ℕ) → last ≡ dumped dump (position_past p items).number more → AreHeaded dump i (suc (length items)) (octets ++ last)
headed_last dump e p i pi [] k n octets h last more is =
    (more, [], ap (λ l. l ++ last) h.1 ∙ line_of dump e p.number i pi last more is ∙ sym (append-nil (head dump i ++ more)), refl)
headed_last dump e p i pi (bad o refusal ∷ items) k n octets h last more is = absurd k
headed_last dump e p i pi (good m ∷ items) k n octets h last more is =
    let line = line_of dump e p.number i pi h.2 h.6.0 h.6.1 in
    let rest = headed_last dump e (after p (length m.octets)) (i + 1) (ap (λ j. j + 1) pi) items k h.1 h.3 h.7 last more is in
    (h.6.0, h.3 ++ last, ap (λ l. l ++ last) (h.5 ∙ ap (λ l. l ++ h.3) line) ∙ append_assoc (head dump i ++ h.6.0) h.3 last, rest)

-- octets are one number of messages
fewer : (p : Profile) (s : List ℕ) (xs ys : List Apdu) → IsStream p s xs [] → IsStream p s ys [] → length xs ≤ length ys → length xs ≡ length ys
fewer p s xs ys h k le =
    let m = stream_fewer p s [] [] xs ys h k le in
    let none : length m.0 ≡ 0 = nothing m.0 m.2 in
    omega (arith, ap length m.1, length-append xs m.0, none)
  where
    nothing : (zs : List Apdu) → IsStream p [] zs [] → length zs ≡ 0
    nothing [] h = refl
    nothing (z ∷ zs) h = absurd (spells_some p z h.0 h.3.encodes (front_none h.0 h.1 h.2))

pub as_many : (p : Profile) (s : List ℕ) (xs ys : List Apdu) → IsStream p s xs [] → IsStream p s ys [] → length xs ≡ length ys
as_many p s xs ys h k = elim (cases_lt (length xs) (length ys)) [
  | inl lt ↦ fewer p s xs ys h k (omega (arith, lt))
  | inr ge ↦ sym (fewer p s ys xs k h (omega (arith, ge)))
]

stream_at : (p : Profile) (s : List ℕ) (rest : Option (List ℕ)) (octets : List ℕ) (items : List Item) → Consumes (Some s) rest octets → AreItems p octets items [] → AreAccepted items
    → (r : List ℕ) × (rest ≡ Some r) × IsStream p s (apdus_of items) r
stream_at p s None octets items taken are k = absurd taken
stream_at p s (Some r) octets items taken are k = (r, refl, subst (λ l. IsStream p l (apdus_of items) r) (sym taken) (is_stream p octets r items are k))

module _ (dump : DumpOptions) (s t : List ℕ) (broken : Bool) (sink : Putting) (reports : Reporting) (end : StreamEnd) where
  abbrev q : Profile
  q = profile_of dump.profile

  abbrev pub Read : Type 0
  Read = ReadsItems (reading_of dump) q (WritesLines dump) (λ entry error held held'. Unit {0}) (λ m. true) (taking (Some s) (Some t) broken) sink reports end

  pub reads : dump.hex ≡ false → RunsDump dump (taking (Some s) (Some t) broken) sink reports end → Read
  reads e h = subst (λ (b : Bool). ReadsInput b (reading_of dump) q (WritesLines dump) (λ entry error held held'. Unit {0}) (λ m. true) (taking (Some s) (Some t) broken) sink reports end) e h

  module _ (ends : dump.on_refusal ≡ OnRefusal.EndWith) (h : Read) where
    accepted : AreAccepted h.items
    accepted = subst (λ m. GoesPast m h.items) ends h.past

    stream : (r : List ℕ) × (h.rest ≡ Some r) × IsStream q s (apdus_of h.items) r
    stream = stream_at q s h.rest h.passes.octets h.items h.passes.taken h.passes.are accepted

    abbrev EndsBy : Option RunFault → Type 0
    EndsBy fault =
        EndsFor q (WritesLines dump) (λ entry error held held'. Unit {0}) (reading_of dump) (taking h.rest (Some t) broken) (putting h.grown sink.held' sink.broken) (reporting h.reported reports.new) (length h.items)
        (position_past first h.items) end.counts.written fault

    pub whole : dump.only ≡ None → end.fault ≡ None → IsStream q s (apdus_of h.items) [] × (length (apdus_of h.items) ≤ 1_000_000)
    whole all none =
        let e : EndsBy None = subst EndsBy none h.ends in
        let here : stream.0 ≡ t = subst (λ r. Consumes r (Some t) []) stream.1 e.1 in
        let empty : t ≡ [] = elim e.2 [ inl x ↦ x | inr only ↦ absurd (let no : None ≡ Some (length h.items) = sym all ∙ only in cc) ] in
        (subst (λ r. IsStream q s (apdus_of h.items) r) (here ∙ empty) stream.2, omega (arith, e.0, counted_apdus h.items accepted))

    pub all_headed : dump.only ≡ None → end.fault ≡ None → (as' : List Apdu) → IsStream q s as' []
        → (end.counts.messages ≡ length as') × ((lines : List ℕ) × AreHeaded dump 1 (length as') lines × Appends sink.held sink.held' lines)
    all_headed all none as' k =
        let e : EndsBy None = subst EndsBy none h.ends in
        let last : last_of end.fault ≡ 0 = ap last_of none in
        let same : length h.items ≡ length as' = sym (counted_apdus h.items accepted) ∙ as_many q s (apdus_of h.items) as' (whole all none).0 k in
        let lines = headed dump all first 1 refl h.items accepted end.counts.written h.passes.output h.passes.written in
        (omega (arith, h.messages, last, same), (h.passes.output, subst (λ n. AreHeaded dump 1 n h.passes.output) same lines, subst (λ z. Appends sink.held z h.passes.output) e.3 h.passes.put))

    pub last_headed : dump.only ≡ None → (i : ℕ) (refusal : Refusal) → end.fault ≡ Some (RunFault.Refused i refusal)
        → (end.counts.messages ≡ i) × ((lines : List ℕ) × AreHeaded dump 1 i lines × Appends sink.held sink.held' lines)
    last_headed all i refusal is =
        let e : EndsBy (Some (RunFault.Refused i refusal)) = subst EndsBy is h.ends in
        let last : last_of end.fault ≡ 1 = ap last_of is in
        let put = subst (λ m. IsLast q (WritesLines dump) (λ entry error held held'. Unit {0}) m (taking h.rest (Some t) broken) (putting h.grown sink.held' sink.broken) (reporting h.reported reports.new) (position_past first h.items) refusal) ends e.2 in
        let text = put.1.1.1.0 in
        let lines = headed_last dump all first 1 refl h.items accepted end.counts.written h.passes.output h.passes.written text put.1.1.1.1.0 put.1.1.1.1.1 in
        let count : suc (length h.items) ≡ i = omega (arith, e.1) in
        (omega (arith, h.messages, last, e.1), (h.passes.output ++ text, subst (λ n. AreHeaded dump 1 n (h.passes.output ++ text)) count lines, Appends-trans sink.held h.grown sink.held' h.passes.output text h.passes.put put.1.1.1.2))

    by_fault : (xs : List Apdu) → IsStream q s xs [] → length xs ≤ 1_000_000 → (e : RunFault) → EndsBy (Some e) → IsResourceFault e
    by_fault xs k few (RunFault.Refused message refusal) e =
        let last = subst (λ m. IsLast q (WritesLines dump) (λ entry error held held'. Unit {0}) m (taking h.rest (Some t) broken) (putting h.grown sink.held' sink.broken) (reporting h.reported reports.new) (position_past first h.items) refusal) ends e.2 in
        let rest = subst (λ r. RefusesRest q r refusal) stream.1 last.0 in
        absurd (none_refused q s stream.0 xs (apdus_of h.items) (fault_of refusal) k stream.2 rest.0 rest.1)
    by_fault xs k few RunFault.TooManyMessages e =
        let more : stream.0 ≡ e.1.0 ∷ t = subst (λ r. Consumes r (Some t) (e.1.0 ∷ [])) stream.1 e.1.1 in
        absurd (no_more q s stream.0 xs (apdus_of h.items) k stream.2 (omega (arith, ap length more)) (omega (arith, few, e.0, counted_apdus h.items accepted)))
    by_fault xs k few RunFault.NotReported e = absurd (let no : OnRefusal.EndWith ≡ OnRefusal.GoOn = sym ends ∙ e.1 in cc)
    by_fault xs k few (RunFault.RefusedSide side refusal) e = e
    by_fault xs k few RunFault.OddHex e = e
    by_fault xs k few (RunFault.BadHex place) e = e
    by_fault xs k few RunFault.HexTooLong e = e
    by_fault xs k few RunFault.OutOfMemory e = tt
    by_fault xs k few RunFault.ReadFault e = tt
    by_fault xs k few (RunFault.WriteFault n) e = tt

    pub fails : (xs : List Apdu) → IsStream q s xs [] → length xs ≤ 1_000_000 → (e : RunFault) → end.fault ≡ Some e → IsResourceFault e
    fails xs k few e is = by_fault xs k few e (subst EndsBy is h.ends)
