use Rattle.std.proofs.Common.{◌≡◌, ◌+◌, ◌≤◌, ℕ, Bool, false, List, [], ◌∷◌, length, Option, Some, None, refl, ap, subst, arith, length-append}
use Rattle.std.specs.Io.KnownBytes.{Consumes, Keeps}
use Rattle.ill_schema.specs.Profiles.{profile_of}
use Rattle.ill_normal.specs.Calls.{taking, putting}
use Rattle.ill_normal.specs.Entries.{BreaksText, WritesText}
use Rattle.ill_normal.specs.Reading.{ReadsInput, ReadsItems, Reporting, reporting}
use Rattle.ill_normal.specs.declared.messages.OnRefusal.{OnRefusal}
use Rattle.ill_normal.specs.declared.messages.StreamEnd.{StreamEnd}
use Rattle.ill_normal.proofs.StoppedReading.{StopsAfter, passes_at, stops_at}
use Rattle.ill_inputs.specs.declared.run_fault.RunFault.{RunFault}
use Rattle.ill_commands.specs.Output.{is_counted_good, message_output}
use Rattle.ill_commands.specs.declared.job.JobOptions.{JobOptions}
use Rattle.test_commands.proofs.jobs.contracts.inputs_are_taken_to_their_limit.Goals as goal

-- one octet at most is taken of what was left
abbrev TakesOne : Option (List ℕ) → List ℕ → Type 0
TakesOne None left' = ⊥
TakesOne (Some left) left' = length left ≤ 1 + length left'

took_one : (left : Option (List ℕ)) (left' : List ℕ) (octet : ℕ) (s b : List ℕ) → Consumes (Some s) left b → Consumes left (Some left') (octet ∷ []) → TakesOne left left'
took_one None left' octet s b h k = absurd h
took_one (Some left) left' octet s b h k = omega (arith, ap length k)

took_none : (left : Option (List ℕ)) (left' : List ℕ) (s b : List ℕ) → Consumes (Some s) left b → Keeps left (Some left') → TakesOne left left'
took_none None left' s b h k = absurd h
took_none (Some left) left' s b h k = omega (arith, ap length k)

taken : (s : List ℕ) (rest : Option (List ℕ)) (t b : List ℕ) → Consumes (Some s) rest b → TakesOne rest t → length s ≤ length b + 1 + length t
taken s None t b h one = absurd one
taken s (Some r) t b h one = omega (arith, ap length h, length-append b r, one)

module _ (work : JobOptions) (s t : List ℕ) (x y : Bool) (held held' : Option (List ℕ)) (reports : Reporting) (end : StreamEnd) (full : end.counts.messages ≡ 1_000_000 + end.counts.refused)
    (h : ReadsItems (record { hex = false; on_refusal = OnRefusal.Stop; only = None }) (profile_of work.profile) (WritesText (message_output work)) (BreaksText (message_output work)) (is_counted_good work) (taking (Some s) (Some t) x) (putting held held' y) reports end) where
  one : (e : RunFault) → (k : StopsAfter (profile_of work.profile) (message_output work) (taking (Some s) (Some t) x) (putting held held' y) end.counts e) → length k.messages ≡ 1_000_000 → TakesOne k.rest t
  one (RunFault.Refused message refusal) k all = absurd (omega (arith, all, k.stops.0))
  one RunFault.TooManyMessages k all = took_one k.rest t k.stops.1.0 s k.writes.octets k.writes.taken k.stops.1.1
  one RunFault.OutOfMemory k all = absurd (omega (arith, all, k.stops.0))
  one RunFault.ReadFault k all = took_none k.rest t s k.writes.octets k.writes.taken (k.stops.2.1 all)
  one (RunFault.WriteFault n) k all = absurd (omega (arith, all, k.stops.0))
  one (RunFault.RefusedSide side refusal) k all = absurd k.stops
  one RunFault.OddHex k all = absurd k.stops
  one (RunFault.BadHex i) k all = absurd k.stops
  one RunFault.HexTooLong k all = absurd k.stops
  one RunFault.NotReported k all = absurd k.stops

  ended : (f : Option RunFault) → end.fault ≡ f → length s ≤ end.counts.octets + 1 + length t
  ended None e =
      let p = passes_at work.profile _ _ _ _ _ false end h e in
      omega (arith, p.octets, ap length p.writes.taken, length-append p.writes.octets t)
  ended (Some why) e =
      let k = stops_at work.profile _ _ _ _ _ false end h why e in
      omega (arith, k.before, taken s k.rest t k.writes.octets k.writes.taken (one why k (omega (arith, full, k.whole))))

pub returns : goal.returns
returns c full =
    let work = c.args.work in
    let s = c.args.source.now.octets in
    let t = c.run_job.new.source.octets in
    let held = Some c.args.sink.now.octets in
    let held' = Some c.run_job.new.sink.octets in
    let x = c.run_job.new.source.broken in
    let y = c.run_job.new.sink.broken in
    let end = c.run_job.result in
    let quiet = reporting None None in
    let reads = subst (λ (m : OnRefusal). ReadsInput work.hex (record { hex = work.hex; on_refusal = m; only = None }) (profile_of work.profile) (WritesText (message_output work)) (BreaksText (message_output work)) (is_counted_good work) (taking (Some s) (Some t) x)
    (putting held held' y) quiet end) c.requires.stops c.run_job.ensures.reads in
    let plain = subst (λ (b : Bool). ReadsInput b (record { hex = b; on_refusal = OnRefusal.Stop; only = None }) (profile_of work.profile) (WritesText (message_output work)) (BreaksText (message_output work)) (is_counted_good work) (taking (Some s) (Some t) x)
    (putting held held' y) quiet end) c.requires.plain reads in
    ended work s t x y held held' quiet end full plain end.fault refl
