-- What a job leaves that read the messages of its input.
use Rattle.std.proofs.Common.{◌≡◌, ℕ, ◌+◌, Bool, true, false, ◌&&◌, List, [], ◌∷◌, ◌++◌, length, take, Option, Some, None, refl, sym, ap, ap₂, subst, ◌∙◌, arith, inl, inr, length-append}
use Rattle.std.specs.Prelude.{IfOk, IfErr, ◌==◌}
use Rattle.std.specs.List.{list_all}
use Rattle.std.specs.Io.KnownBytes.{Appends, Keeps}
use Rattle.std.proofs.KnownBytes.{Appends-trans, Keeps-refl}
use Rattle.std.proofs.Math.Seq.{take-append-add}
use Rattle.ber_leaf.specs.Profile.{Profile}
use Rattle.ill_schema.specs.Profiles.{profile_of}
use Rattle.ill_normal.specs.Calls.{Taking, taking, Putting, putting}
use Rattle.ill_normal.specs.Messages.{Spelling, first, good_of, position_after}
use Rattle.std.proofs.lemmas.Result.{IfErr-weaker, IfOk-weaker}
use Rattle.ill_normal.specs.Entries.{BreaksText, WritesText}
use Rattle.ill_normal.specs.Reading.{ReadsInput, Reporting}
use Rattle.ill_normal.specs.declared.counts.Counts.{Counts}
use Rattle.ill_normal.specs.declared.messages.OnRefusal.{OnRefusal}
use Rattle.ill_normal.specs.declared.messages.StreamEnd.{StreamEnd}
use Rattle.ill_normal.proofs.StoppedReading.{BreaksWithin, PassesAll, Reads, StopsAfter, StopsFor, all_good, output_push, passes, stops_after}
use Rattle.ill_inputs.specs.Inputs.{verdict_if}
use Rattle.ill_inputs.specs.declared.run_fault.RunFault.{RunFault}
use Rattle.ill_commands.specs.declared.job.JobOptions.{JobOptions}
use Rattle.ill_commands.specs.declared.job.Job.{Job}
use Rattle.ill_commands.specs.Output.{message_output, output, counts_as_good, is_counted_good, verdict_of, verdict_of_counts}
use Rattle.ill_commands.specs.Runs.{BrokeAt, Stops, JobStopsAfter, Done, RunDone, RunFails}
use Rattle.ill_commands.specs.code.Endings.{answer_by, answer_of}

all_true : (ms : List Spelling) → list_all (λ m. true) ms ≡ true
all_true [] = refl
all_true (m ∷ ms) = all_true ms

module _ (work : JobOptions) where
  abbrev q : Profile
  q = profile_of work.profile

  -- the job asks for what was counted, or for nothing
  is_verdict : (job : Job) (compares : Bool) (counts : Counts) (ms : List Spelling) → counts.messages ≡ length ms → counts.refused ≡ 0 → counts.good ≡ good_of (counts_as_good q job compares) ms
      → verdict_of_counts job counts ≡ verdict_of q job ms
  is_verdict Job.Check compares counts ms count none goods =
      ap verdict_if (ap₂ (λ (a b : Bool). a && b) (ap (λ (n : ℕ). n == 0) none) (ap₂ (λ (a b : ℕ). a == b) (ap₂ (λ (a b : ℕ). a + b) none goods ∙ plain) count ∙ all_good (counts_as_good q Job.Check compares) ms))
    where
      plain : 0 + good_of (counts_as_good q Job.Check compares) ms ≡ good_of (counts_as_good q Job.Check compares) ms
      plain = omega arith
  is_verdict Job.CheckJson compares counts ms count none goods =
      ap verdict_if (ap₂ (λ (a b : Bool). a && b) (ap (λ (n : ℕ). n == 0) none) (ap₂ (λ (a b : ℕ). a == b) (ap₂ (λ (a b : ℕ). a + b) none goods ∙ plain) count ∙ all_good (counts_as_good q Job.CheckJson compares) ms))
    where
      plain : 0 + good_of (counts_as_good q Job.CheckJson compares) ms ≡ good_of (counts_as_good q Job.CheckJson compares) ms
      plain = omega arith
  is_verdict _ compares counts ms count none goods = ap verdict_if (ap (λ (n : ℕ). n == 0) none ∙ sym (all_true ms))

  done_all : (left left' held held' : Option (List ℕ)) (counts : Counts) → PassesAll q (message_output work) (is_counted_good work) left left' held held' counts
      → Done work left left' held held' (verdict_of_counts work.job counts)
  done_all left left' held held' counts h = record {
    messages = h.messages;
    writes = h.writes;
    end = h.end;
    few = h.few;
    is_verdict = is_verdict work.job work.compares counts h.messages h.count h.none h.goods;
  }

  -- the sink broke within a message
  broke_within : (source : Taking) (sink : Putting) (held : Option (List ℕ)) (ms : List Spelling) (written k n : ℕ) → Appends held sink.held (output work ms) → written ≡ length (output work ms)
      → n ≡ written + k → BreaksWithin q (message_output work (position_after first ms)) source sink k → BrokeAt work source.left source.left' held sink.held' ms n
  broke_within source sink held ms written k n w size sum b =
      let text = message_output work (position_after first ms) in
      let m = b.message in
      let so_far = output work ms in
      let all : output work (ms ++ m ∷ []) ≡ so_far ++ text m = output_push (message_output work) first ms m in
      let total : n ≡ length so_far + k = omega (arith, size, sum) in
      let part : so_far ++ take k (text m) ≡ take n (output work (ms ++ m ∷ [])) =
      sym (ap (λ (i : ℕ). take i (output work (ms ++ m ∷ []))) total ∙ ap (λ l. take (length so_far + k) l) all ∙ take-append-add so_far (text m) k) in
      record {
        message = m;
        spells = b.spells;
        taken = b.taken;
        written = subst (Appends held sink.held') part (Appends-trans held sink.held sink.held' _ _ w b.written);
        some = omega (arith, total);
        not_all = omega (arith, total, b.fewer, ap length all, length-append so_far (text m));
      }

  stops : (source : Taking) (sink : Putting) (held : Option (List ℕ)) (ms : List Spelling) (written : ℕ) (why : RunFault) → Appends held sink.held (output work ms) → written ≡ length (output work ms)
      → StopsFor q (message_output work) source sink (length ms) (position_after first ms) written why → Stops work source sink held ms why
  stops source sink held ms written (RunFault.Refused message refusal) w size h = (h.1, h.0, h.2, h.3)
  stops source sink held ms written RunFault.OutOfMemory w size h = h
  stops source sink held ms written RunFault.ReadFault w size h = h
  stops source sink held ms written (RunFault.WriteFault n) w size h = (h.0, h.1, broke_within source sink held ms written h.2.0 n w size h.2.2 h.2.1)
  stops source sink held ms written RunFault.TooManyMessages w size h = h
  stops source sink held ms written RunFault.NotReported w size h = absurd h
  stops source sink held ms written (RunFault.RefusedSide side refusal) w size h = absurd h
  stops source sink held ms written RunFault.OddHex w size h = absurd h
  stops source sink held ms written (RunFault.BadHex place) w size h = absurd h
  stops source sink held ms written RunFault.HexTooLong w size h = absurd h

  stops_job : (source : Taking) (sink : Putting) (counts : Counts) (why : RunFault) → StopsAfter q (message_output work) source sink counts why → JobStopsAfter work source sink why
  stops_job source sink counts why h = record {
    messages = h.messages;
    rest = h.rest;
    grown = h.grown;
    writes = h.writes;
    taken = h.taken;
    stops = stops (taking h.rest source.left' source.broken) (putting h.grown sink.held' sink.broken) sink.held h.messages counts.written why h.writes.written h.written h.stops;
  }

  module _ (source : Taking) (sink : Putting) (reports : Reporting) where
    -- the answer where the messages of the input were read
    answer_items : (counts : Counts) (fault : Option RunFault) → Reads work.profile (message_output work) (is_counted_good work) source sink reports counts work.hex fault
        → IfOk (answer_by work.job counts fault) (Done work source.left source.left' sink.held sink.held') × IfErr (answer_by work.job counts fault) (JobStopsAfter work source sink)
    answer_items counts None h =
        (done_all source.left source.left' sink.held sink.held' counts (passes work.profile (message_output work) (is_counted_good work) source sink reports counts work.hex h), tt)
    answer_items counts (Some why) h =
        (tt, stops_job source sink counts why (stops_after work.profile (message_output work) (is_counted_good work) source sink reports counts work.hex why h))

  -- the answer of a job that stops at a refused message
  pub answers : (hex : Bool) (source : Taking) (sink : Putting) (reports : Reporting) (end : StreamEnd)
      → ReadsInput hex (record { hex = work.hex; on_refusal = OnRefusal.Stop; only = None }) q (WritesText (message_output work)) (BreaksText (message_output work)) (is_counted_good work) source sink reports end
      → IfOk (answer_of work.job end) (RunDone hex work source.left source.left' sink.held sink.held') × IfErr (answer_of work.job end) (RunFails hex work source sink)
  answers false source sink reports end h = answer_items source sink reports end.counts end.fault h
  answers true source sink reports end (inl h) =
      subst (λ (f : Option RunFault). IfOk (answer_by work.job end.counts f) (RunDone true work source.left source.left' sink.held sink.held') × IfErr (answer_by work.job end.counts f) (RunFails true work source sink)) (sym h.1)
      (tt, inl (h.2, subst (Keeps sink.held) h.4 (Keeps-refl sink.held)))
  answers true source sink reports end (inr h) =
      let a = answer_items (taking (Some h.0) (Some h.2.0) false) sink reports end.counts end.fault h.2.1 in (
        IfOk-weaker (answer_of work.job end) _ _ (λ verdict d. (h.0, h.1, (h.2.0, d))) a.0,
        IfErr-weaker (answer_of work.job end) _ _ (λ fault d. inr (h.0, h.1, (h.2.0, d))) a.1,
      )
