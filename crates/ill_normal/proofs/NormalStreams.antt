-- A stream of normal forms is what is written of messages, one after another.
use Rattle.std.proofs.Common.{◌≡◌, ℕ, ◌-◌, ◌≤◌, Bool, List, [], ◌∷◌, ◌++◌, map, length, Option, refl, sym, ap, subst, ◌∙◌, arith}
use Rattle.std.specs.Prelude.{flat_map}
use Rattle.std.specs.Io.KnownBytes.{Appends, IsAtEnd}
use Rattle.std.proofs.lemmas.List.{length-map}
use Rattle.ill_schema.specs.Profiles.{profile_of}
use Rattle.ill_tables.specs.declared.profile.Profile.{Profile as Named}
use Rattle.ill_schema.specs.Apdu.{Apdu, IsStream, normal_form_in}
use Rattle.ill_inputs.specs.declared.run_fault.RunFault.{RunFault}
use Rattle.ill_normal.specs.declared.failure.StreamFailure.{StreamFailure}
use Rattle.ill_normal.specs.Calls.{Taking, taking, Putting, putting}
use Rattle.ill_normal.specs.Messages.{Spelling, AreSpelledIn, after, first, position_after, output_from, WritesMessagesIn}
use Rattle.ill_normal.specs.Normalised.{FailsIn}
use Rattle.ill_normal.specs.Streamed.{PassesIn, StopsIn, StopsAfterIn}
use Rattle.ill_normal.specs.declared.failure.NormalFailure.{NormalFailure}
use Rattle.ill_normal.specs.code.Streaming.{IsStreamFault, IsCause, normal_text, stream_cause, stream_failure}
use Rattle.ill_normal.specs.declared.counts.Counts.{Counts}
use Rattle.ill_normal.specs.declared.messages.MessagePlace.{MessagePlace}
use Rattle.ill_normal.proofs.StoppedReading.{PassesAll, StopsAfter, StopsFor}

pub apdus_of : List Spelling → List Apdu
apdus_of ms = map (λ m. m.apdu) ms

pub as_many : (ms : List Spelling) → length (apdus_of ms) ≡ length ms
unfolding apdus_of
as_many ms = length-map ms (λ m. m.apdu)

module _ (q : Named) where
  pub stream_of : (s rest : List ℕ) (ms : List Spelling) → AreSpelledIn (profile_of q) s ms rest → IsStream (profile_of q) s (apdus_of ms) rest
  unfolding apdus_of
  stream_of s rest [] h = h
  stream_of s rest (m ∷ ms) h = (m.octets, h.0, h.1, h.2, stream_of h.0 rest ms h.3)

  forms : (p : MessagePlace) (ms : List Spelling) → output_from (normal_text q) p ms ≡ flat_map (normal_form_in (profile_of q)) (apdus_of ms)
  unfolding apdus_of
  forms p [] = refl
  forms p (m ∷ ms) = ap (λ l. normal_form_in (profile_of q) m.apdu ++ l) (forms (after p (length m.octets)) ms)

  passes_of : (left left' held held' : Option (List ℕ)) (ms : List Spelling) (whole before : ℕ) → (w : WritesMessagesIn (profile_of q) (normal_text q) left left' held held' ms)
      → whole ≡ length ms → before ≡ length w.octets → PassesIn (profile_of q) left left' held held' whole before
  passes_of left left' held held' ms whole before w count size = record {
    apdus = apdus_of ms;
    octets = w.octets;
    stream = stream_of w.octets [] ms w.spelled;
    taken = w.taken;
    written = subst (Appends held held') (forms first ms) w.written;
    count = as_many ms ∙ sym count;
    size = sym size;
  }

  pub streamed : (is_good : Spelling → Bool) (left left' held held' : Option (List ℕ)) (counts : Counts) → PassesAll (profile_of q) (normal_text q) is_good left left' held held' counts
      → (before : ℕ) × PassesIn (profile_of q) left left' held held' counts.messages before × IsAtEnd left' × (counts.messages ≤ 1_000_000)
  streamed is_good left left' held held' counts h =
      (length h.writes.octets, passes_of left left' held held' h.messages counts.messages _ h.writes h.count refl, h.end, omega (arith, h.few, h.count))

  stops : (source : Taking) (sink : Putting) (whole written : ℕ) (next : MessagePlace) (why : RunFault) → StopsFor (profile_of q) (normal_text q) source sink whole next written why
      → StopsIn (profile_of q) source sink whole (stream_cause written why)
  stops source sink whole written next (RunFault.Refused message refusal) h = (h.0, (h.2, h.3))
  stops source sink whole written next RunFault.OutOfMemory h = h
  stops source sink whole written next RunFault.ReadFault h = (h.0, h.2, (h.1, h.2.0, h.3))
  stops source sink whole written next (RunFault.WriteFault n) h =
      let b = h.2.1 in
      let size : h.2.0 ≡ n - written = omega (arith, h.2.2) in
      (h.0, subst (λ (k : ℕ). FailsIn (profile_of q) source sink (NormalFailure.WriteFault k)) size (h.1, (b.message.apdu, b.message.octets, b.spells, b.taken, b.written, b.fewer)))
  stops source sink whole written next RunFault.TooManyMessages h = h
  stops source sink whole written next RunFault.NotReported h = absurd h
  stops source sink whole written next (RunFault.RefusedSide side refusal) h = absurd h
  stops source sink whole written next RunFault.OddHex h = absurd h
  stops source sink whole written next (RunFault.BadHex place) h = absurd h
  stops source sink whole written next RunFault.HexTooLong h = absurd h

  stops_as : (source : Taking) (sink : Putting) (counts : Counts) (why : RunFault) → StopsAfter (profile_of q) (normal_text q) source sink counts why
      → StopsAfterIn (profile_of q) source sink (stream_failure counts why)
  stops_as source sink counts why h =
      let whole : counts.messages - counts.refused ≡ length h.messages = omega (arith, h.whole) in
      record {
        rest = h.rest;
        grown = h.grown;
        passes = passes_of source.left h.rest sink.held h.grown h.messages (counts.messages - counts.refused) counts.octets h.writes whole h.before;
        taken = h.taken;
        stops = subst (λ (n : ℕ). StopsIn (profile_of q) (taking h.rest source.left' source.broken) (putting h.grown sink.held' sink.broken) n (stream_cause counts.written why)) (sym whole)
            (stops (taking h.rest source.left' source.broken) (putting h.grown sink.held' sink.broken) (length h.messages) counts.written (position_after first h.messages) why h.stops);
      }

  pub stops_of : (source : Taking) (sink : Putting) (counts : Counts) (why : RunFault) (failure : StreamFailure) → failure ≡ stream_failure counts why
      → StopsAfter (profile_of q) (normal_text q) source sink counts why → StopsAfterIn (profile_of q) source sink failure
  stops_of source sink counts why failure is h = rw is (stops_as source sink counts why h)

  -- of a normal form no more is written than a message may have
  is_cause : (source : Taking) (sink : Putting) (whole written : ℕ) (next : MessagePlace) (why : RunFault) → StopsFor (profile_of q) (normal_text q) source sink whole next written why → IsCause written why
  is_cause source sink whole written next (RunFault.Refused message refusal) h = tt
  is_cause source sink whole written next RunFault.OutOfMemory h = tt
  is_cause source sink whole written next RunFault.ReadFault h = tt
  is_cause source sink whole written next (RunFault.WriteFault n) h =
      let b = h.2.1 in
      let short : length (normal_form_in (profile_of q) b.message.apdu) ≤ 1_048_576 = b.spells.normal_short in
      (omega (arith, h.2.2), omega (arith, short, b.fewer, h.2.2))
  is_cause source sink whole written next RunFault.TooManyMessages h = tt
  is_cause source sink whole written next RunFault.NotReported h = h
  is_cause source sink whole written next (RunFault.RefusedSide side refusal) h = h
  is_cause source sink whole written next RunFault.OddHex h = h
  is_cause source sink whole written next (RunFault.BadHex place) h = h
  is_cause source sink whole written next RunFault.HexTooLong h = h

  pub is_stream_fault : (source : Taking) (sink : Putting) (counts : Counts) (why : RunFault) → StopsAfter (profile_of q) (normal_text q) source sink counts why → IsStreamFault counts why
  is_stream_fault source sink counts why h = (omega (arith, h.whole), is_cause _ _ (length h.messages) counts.written (position_after first h.messages) why h.stops)
