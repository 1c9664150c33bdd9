-- Of one input one output is written.
use Rattle.std.proofs.Common.{◌≡◌, ◌+◌, ℕ, Bool, true, false, List, [], ◌∷◌, ◌++◌, codes, length, take, Option, Some, None, Result, Ok, Err, refl, sym, ap, subst, ◌∙◌, inl, inr, arith}
use Rattle.std.specs.Prelude.{IfErr, IfOk}
use Rattle.std.specs.Io.KnownBytes.{Appends, IsAtEnd, Keeps}
use Rattle.ber_leaf.specs.Profile.{Profile}
use Rattle.ill_schema.specs.Profiles.{profile_of}
use Rattle.ill_tables.specs.declared.profile.Profile.{Profile as Named}
use Rattle.ill_schema.proofs.Streams.{accepts_once, parts_accept, tails, take_front}
use Rattle.ill_normal.specs.Calls.{taking, putting}
use Rattle.ill_normal.specs.Messages.{AreSpelledIn, Spelling, first, output_from}
use Rattle.ill_normal.specs.declared.messages.MessagePlace.{MessagePlace}
use Rattle.ill_inputs.specs.Hexadecimal.{hex_octets}
use Rattle.ill_commands.specs.Output.{message_output, message_text}
use Rattle.ill_inputs.specs.Inputs.{FailsText, IsResourceFault, TextOf}
use Rattle.ill_commands.specs.Runs.{Done, IsUnnamed, JobDone, JobFails, RunFails, JobStopsAfter, WritesMessages}
use Rattle.ill_inputs.specs.declared.run_fault.RunFault.{RunFault}
use Rattle.ill_commands.specs.declared.job.Job.{Job}
use Rattle.ill_inputs.specs.declared.verdict.Verdict.{Verdict}
use Rattle.ill_commands.specs.declared.job.JobOptions.{JobOptions}
use Rattle.ill_commands.proofs.JobAnswers.{one_reading, same_spelling, taken_of}
use Rattle.ill_inputs.proofs.HexAnswers.{is_fault, not_both, same_octets, same_ok}

-- as many messages at the front of an input are the same ones
same_front : (p : Profile) (s r t : List ℕ) (ms ns : List Spelling) → AreSpelledIn p s ms r → AreSpelledIn p s ns t → length ms ≡ length ns → ms ≡ ns
same_front p s r t [] [] h k e = refl
same_front p s r t [] (n ∷ ns) h k e = absurd (omega (arith, e))
same_front p s r t (m ∷ ms) [] h k e = absurd (omega (arith, e))
same_front p s r t (m ∷ ms) (n ∷ ns) h k e =
    let same = accepts_once p s m.apdu n.apdu (length m.octets) (length n.octets) (parts_accept p s m.apdu m.octets h.0 h.1 h.2) (parts_accept p s n.apdu n.octets k.0 k.1 k.2) in
    let octets : m.octets ≡ n.octets =
    sym (take_front m.octets h.0) ∙ ap (λ l. take (length m.octets) l) (sym h.1) ∙ ap (λ (i : ℕ). take i s) same.1 ∙ ap (λ l. take (length n.octets) l) k.1 ∙ take_front n.octets k.0 in
    let rest : h.0 ≡ k.0 = tails m.octets n.octets h.0 k.0 octets (sym h.1 ∙ k.1) in
    let more = same_front p h.0 r t ms ns h.3 (subst (λ z. AreSpelledIn p z ns t) (sym rest) k.3) (omega (arith, e)) in
    ap (λ (x : Spelling). x ∷ ms) (same_spelling m n same.0 octets) ∙ ap (λ (xs : List Spelling). n ∷ xs) more

appended : (held held' out : List ℕ) (grown : Option (List ℕ)) → Appends (Some held) grown out → Keeps grown (Some held') → held' ≡ held ++ out
appended held held' out None a k = absurd a
appended held held' out (Some g) a k = k ∙ a

-- the text of a job's messages is that of its work
text_of : (q : Named) (job : Job) (hex : Bool) (work : JobOptions) → IsUnnamed q job hex work → message_output work ≡ message_text (profile_of q) job hex (codes "-") false
text_of q job hex work u =
    ap (λ (p : Named). message_text (profile_of p) work.job work.hex work.name.now work.names_input) u.profile
    ∙ ap (λ (j : Job). message_text (profile_of q) j work.hex work.name.now work.names_input) u.same_job
    ∙ ap (λ (h : Bool). message_text (profile_of q) job h work.name.now work.names_input) u.same_hex
    ∙ ap (λ (n : List ℕ). message_text (profile_of q) job hex n work.names_input) u.name
    ∙ ap (λ (b : Bool). message_text (profile_of q) job hex (codes "-") b) u.not_named

-- these messages at the front of the octets were written, and nothing else
record Wrote (p : Profile) (text : MessagePlace → Spelling → List ℕ) (s held held' : List ℕ) (messages : List Spelling) : Type 0 where
  rest : List ℕ
  spelled : AreSpelledIn p s messages rest
  written : held' ≡ held ++ output_from text first messages

module _ (q : Named) (job : Job) (hex : Bool) (s held : List ℕ) where
  abbrev text : MessagePlace → Spelling → List ℕ
  text = message_text (profile_of q) job hex (codes "-") false

  once : (new other : List ℕ) (ms ns : List Spelling) → Wrote (profile_of q) text s held new ms → Wrote (profile_of q) text s held other ns → length ms ≡ length ns → new ≡ other
  once new other ms ns x y e =
      x.written ∙ ap (λ ms. held ++ output_from text first ms) (same_front (profile_of q) s x.rest y.rest ms ns x.spelled y.spelled e) ∙ sym y.written

  wrote : (work : JobOptions) → IsUnnamed q job hex work → (held' : List ℕ) (left' grown : Option (List ℕ)) (ms : List Spelling) → WritesMessages work (Some s) left' (Some held) grown ms → Keeps grown (Some held')
      → Wrote (profile_of q) text s held held' ms
  wrote work u held' left' grown ms w k =
      let t = taken_of work s left' (Some held) grown ms w in
      record {
        rest = t.0;
        spelled = subst (λ (p : Named). AreSpelledIn (profile_of p) s ms t.0) u.profile t.2;
        written = appended held held' _ grown w.written k ∙ ap (λ (f : MessagePlace → Spelling → List ℕ). held ++ output_from f first ms) (text_of q job hex work u);
      }

-- how many messages are written before a fault that is none of memory, the source or the sink
abbrev Before : RunFault → ℕ → Type 0
Before (RunFault.Refused message refusal) n = message ≡ n + 1
Before RunFault.TooManyMessages n = n ≡ 1_000_000
Before _ n = ⊥

before_once : (e : RunFault) (m n : ℕ) → Before e m → Before e n → m ≡ n
before_once (RunFault.Refused message refusal) m n h k = omega (arith, h, k)
before_once RunFault.TooManyMessages m n h k = omega (arith, h, k)
before_once (RunFault.RefusedSide side refusal) m n h k = absurd h
before_once RunFault.OddHex m n h k = absurd h
before_once (RunFault.BadHex i) m n h k = absurd h
before_once RunFault.HexTooLong m n h k = absurd h
before_once RunFault.NotReported m n h k = absurd h
before_once RunFault.OutOfMemory m n h k = absurd h
before_once RunFault.ReadFault m n h k = absurd h
before_once (RunFault.WriteFault i) m n h k = absurd h

module _ (q : Named) (job : Job) (hex : Bool) (s held held' : List ℕ) (left' : Option (List ℕ)) (x y : Bool) (work : JobOptions) (u : IsUnnamed q job hex work) where
  done_wrote : (v : Verdict) (d : Done work (Some s) left' (Some held) (Some held') v) → Wrote (profile_of q) (message_text (profile_of q) job hex (codes "-") false) s held held' d.messages
  done_wrote v d = wrote q job hex s held work u held' left' (Some held') d.messages d.writes refl

  done_whole : (v : Verdict) (d : Done work (Some s) left' (Some held) (Some held') v) → AreSpelledIn (profile_of q) s d.messages []
  done_whole v d =
      let t = taken_of work s left' (Some held) (Some held') d.messages d.writes in
      let spelled = subst (λ (p : Named). AreSpelledIn (profile_of p) s d.messages t.0) u.profile t.2 in
      subst (AreSpelledIn (profile_of q) s d.messages) (subst IsAtEnd t.1 d.end) spelled

  stop_wrote : (e : RunFault) → (IsResourceFault e → ⊥) → (h : JobStopsAfter work (taking (Some s) left' x) (putting (Some held) (Some held') y) e)
      → Wrote (profile_of q) (message_text (profile_of q) job hex (codes "-") false) s held held' h.messages × Before e (length h.messages)
  stop_wrote (RunFault.Refused message refusal) sound h = (wrote q job hex s held work u held' h.rest h.grown h.messages h.writes h.stops.3, h.stops.0)
  stop_wrote RunFault.TooManyMessages sound h = (wrote q job hex s held work u held' h.rest h.grown h.messages h.writes h.stops.2, h.stops.0)
  stop_wrote (RunFault.RefusedSide side refusal) sound h = absurd h.stops
  stop_wrote RunFault.OddHex sound h = absurd h.stops
  stop_wrote (RunFault.BadHex i) sound h = absurd h.stops
  stop_wrote RunFault.HexTooLong sound h = absurd h.stops
  stop_wrote RunFault.NotReported sound h = absurd h.stops
  stop_wrote RunFault.OutOfMemory sound h = absurd (sound tt)
  stop_wrote RunFault.ReadFault sound h = absurd (sound tt)
  stop_wrote (RunFault.WriteFault i) sound h = absurd (sound tt)

-- two calls on one input
module _ (q : Named) (job : Job) (s held new other : List ℕ) (left left' : Option (List ℕ)) (x y x' y' : Bool) where
  plain_done : (v w : Verdict) → JobDone q job false (taking (Some s) left x) (putting (Some held) (Some new) y) v → JobDone q job false (taking (Some s) left' x') (putting (Some held) (Some other) y') w → new ≡ other
  plain_done v w d f =
      once q job false s held new other d.done.messages f.done.messages (done_wrote q job false s held new left x y d.work d.unnamed v d.done) (done_wrote q job false s held other left' x' y' f.work f.unnamed w f.done)
      (ap length (one_reading (profile_of q) s d.done.messages f.done.messages (done_whole q job false s held new left x y d.work d.unnamed v d.done) (done_whole q job false s held other left' x' y' f.work f.unnamed w f.done)))

  plain_fails : (e : RunFault) → (IsResourceFault e → ⊥) → JobFails q job false (taking (Some s) left x) (putting (Some held) (Some new) y) e → JobFails q job false (taking (Some s) left' x') (putting (Some held) (Some other) y') e → new ≡ other
  plain_fails e sound d f =
      let a = stop_wrote q job false s held new left x y d.work d.unnamed e sound d.fails in
      let b = stop_wrote q job false s held other left' x' y' f.work f.unnamed e sound f.fails in
      once q job false s held new other d.fails.messages f.fails.messages a.0 b.0 (before_once e _ _ a.1 b.1)

  text_is : (l : Option (List ℕ)) (o : List ℕ) → TextOf (Some s) l o → hex_octets s ≡ Ok o
  text_is l o t = same_octets s l t.text t.taken ∙ t.stands

  text_done : (v w : Verdict) → JobDone q job true (taking (Some s) left x) (putting (Some held) (Some new) y) v → JobDone q job true (taking (Some s) left' x') (putting (Some held) (Some other) y') w → new ≡ other
  text_done v w d f =
      let o = d.done.0 in
      let e : f.done.0 ≡ o = same_ok (hex_octets s) f.done.0 o (text_is left' f.done.0 f.done.1) (text_is left o d.done.1) in
      let a = d.done.2.1 in
      let b = subst (λ l. Done f.work (Some l) (Some f.done.2.0) (Some held) (Some other) w) e f.done.2.1 in
      once q job true o held new other a.messages b.messages
      (done_wrote q job true o held new (Some d.done.2.0) x y d.work d.unnamed v a) (done_wrote q job true o held other (Some f.done.2.0) x' y' f.work f.unnamed w b)
      (ap length (one_reading (profile_of q) o a.messages b.messages (done_whole q job true o held new (Some d.done.2.0) x y d.work d.unnamed v a) (done_whole q job true o held other (Some f.done.2.0) x' y' f.work f.unnamed w b)))

  -- a text that stands for nothing
  no_octets : (l : Option (List ℕ)) (z : Bool) (e : RunFault) → (IsResourceFault e → ⊥) → FailsText (Some s) l z e → hex_octets s ≡ Err e
  no_octets l z e sound (inl t) = same_octets s l t.text t.taken ∙ t.stands
  no_octets l z e sound (inr u) = absurd (sound (is_fault 4_194_305 (Some s) l z e u))

  text_fails : (e : RunFault) → (IsResourceFault e → ⊥) → JobFails q job true (taking (Some s) left x) (putting (Some held) (Some new) y) e → JobFails q job true (taking (Some s) left' x') (putting (Some held) (Some other) y') e → new ≡ other
  text_fails e sound d f = go d.fails f.fails
    where
      go : RunFails true d.work (taking (Some s) left x) (putting (Some held) (Some new) y) e → RunFails true f.work (taking (Some s) left' x') (putting (Some held) (Some other) y') e → new ≡ other
      go (inl h) (inl k) = h.1 ∙ sym k.1
      go (inl h) (inr k) = absurd (not_both (hex_octets s) k.0 e (text_is left' k.0 k.1) (no_octets left x e sound h.0))
      go (inr h) (inl k) = absurd (not_both (hex_octets s) h.0 e (text_is left h.0 h.1) (no_octets left' x' e sound k.0))
      go (inr h) (inr k) =
          let o = h.0 in
          let same : k.0 ≡ o = same_ok (hex_octets s) k.0 o (text_is left' k.0 k.1) (text_is left o h.1) in
          let b = subst (λ l. JobStopsAfter f.work (taking (Some l) (Some k.2.0) false) (putting (Some held) (Some other) y') e) same k.2.1 in
          let one = stop_wrote q job true o held new (Some h.2.0) false y d.work d.unnamed e sound h.2.1 in
          let two = stop_wrote q job true o held other (Some k.2.0) false y' f.work f.unnamed e sound b in
          once q job true o held new other h.2.1.messages b.messages one.0 two.0 (before_once e _ _ one.1 two.1)

  -- one result, and no fault of memory, the source or the sink
  pub one_output : (hex : Bool) (r : Result Verdict RunFault) → IfErr r (λ e. IsResourceFault e → ⊥)
      → IfOk r (JobDone q job hex (taking (Some s) left x) (putting (Some held) (Some new) y)) → IfErr r (JobFails q job hex (taking (Some s) left x) (putting (Some held) (Some new) y))
      → IfOk r (JobDone q job hex (taking (Some s) left' x') (putting (Some held) (Some other) y')) → IfErr r (JobFails q job hex (taking (Some s) left' x') (putting (Some held) (Some other) y')) → new ≡ other
  one_output false (Ok v) sound d e d' e' = plain_done v v d d'
  one_output false (Err fault) sound d e d' e' = plain_fails fault sound e e'
  one_output true (Ok v) sound d e d' e' = text_done v v d d'
  one_output true (Err fault) sound d e d' e' = text_fails fault sound e e'
