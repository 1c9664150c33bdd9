-- What a job does to its source and its sink.
use Rattle.std.specs.Prelude.{◌≡◌, ◌⊎◌, ℕ, ◌+◌, ◌<◌, ◌≤◌, Bool, true, false, List, [], ◌∷◌, ◌++◌, length, take, codes, Option, None, Some, Result, Ok, Err, IfSome, IsTrue}
use Rattle.std.specs.Io.KnownBytes.{Consumes, Keeps, Appends, IsAtEnd}
use Rattle.ber_leaf.specs.Profile.{Profile}
use Rattle.ill_schema.specs.Apdu.{SpellsApdu}
use Rattle.ill_schema.specs.Profiles.{profile_of}
use Rattle.ill_tables.specs.declared.profile.Profile.{Profile as Named}
use Rattle.ill_refusals.specs.Fault.{Fault, fault_of}
use Rattle.ill_read.specs.Answers.{TakesFront}
use Rattle.ill_refusals.specs.Outcome.{OnlyRefuses}
use Rattle.ill_normal.specs.Calls.{Taking, taking, Putting, putting}
use Rattle.ill_commands.specs.declared.job.Job.{Job}
use Rattle.ill_inputs.specs.declared.verdict.Verdict.{Verdict}
use Rattle.ill_commands.specs.declared.job.JobOptions.{JobOptions}
use Rattle.ill_inputs.specs.declared.run_fault.RunFault.{RunFault}
use Rattle.ill_normal.specs.Messages.{Spelling, AreSpelledIn, TakesNoFurtherIn}
use Rattle.ill_normal.specs.Messages as messages
use Rattle.ill_normal.specs.Entries.{BreaksText, WritesText}
use Rattle.ill_normal.specs.Reading.{ReadsInput, Reporting}
use Rattle.ill_normal.specs.declared.messages.OnRefusal.{OnRefusal}
use Rattle.ill_normal.specs.declared.messages.Reading.{Reading}
use Rattle.ill_normal.specs.declared.messages.StreamEnd.{StreamEnd}
use Rattle.ill_inputs.specs.Inputs.{FailsText, IsResourceFault, TextOf}
use Rattle.ill_commands.specs.Output.{is_counted_good, message_output, output, verdict_of}
use Rattle.ill_inputs.specs.Hexadecimal.{hex_octets}

-- how a job reads its input
abbrev pub reading_of : JobOptions → Reading
reading_of work = record { hex = work.hex; on_refusal = work.on_refusal; only = None }

-- the messages of an input were read up to this end, and the output of the accepted ones was written
abbrev pub RunsJob : JobOptions → Taking → Putting → Reporting → StreamEnd → Type 0
RunsJob work source sink reports end =
    ReadsInput work.hex (reading_of work) (profile_of work.profile) (WritesText (message_output work)) (BreaksText (message_output work)) (is_counted_good work) source sink reports end

-- the octets that were taken are these messages, and their output was written
abbrev pub WritesMessages : JobOptions → Option (List ℕ) → Option (List ℕ) → Option (List ℕ) → Option (List ℕ) → List Spelling → Type 0
WritesMessages work left left' held held' ms = messages.WritesMessagesIn (profile_of work.profile) (message_output work) left left' held held' ms

-- where a sink broke: of the output, with that of one message more, the first n octets were written
pub record BrokeAt (work : JobOptions) (left left' held held' : Option (List ℕ)) (messages : List Spelling) (n : ℕ) : Type 0 where
  pub message : Spelling
  pub spells : SpellsApdu (profile_of work.profile) message.apdu message.octets
  pub taken : Consumes left left' message.octets
  pub written : Appends held held' (take n (output work (messages ++ message ∷ [])))
  pub some : length (output work messages) ≤ n
  pub not_all : n < length (output work (messages ++ message ∷ []))

-- why a job stopped after these messages, from where its source and its sink stood then; `first` is what the sink held before all of them
abbrev pub Stops : JobOptions → Taking → Putting → Option (List ℕ) → List Spelling → RunFault → Type 0
Stops work source sink first ms (RunFault.Refused message refusal) =
    (message ≡ length ms + 1) × (length ms < 1_000_000)
    × IfSome source.left (λ s. (0 < length s) × OnlyRefuses (profile_of work.profile) s (fault_of refusal)) × Keeps sink.held sink.held'
Stops work source sink first ms RunFault.TooManyMessages =
    (length ms ≡ 1_000_000) × ((octet : ℕ) × Consumes source.left source.left' (octet ∷ [])) × Keeps sink.held sink.held'
Stops work source sink first ms RunFault.OutOfMemory = (length ms < 1_000_000) × Keeps sink.held sink.held'
Stops work source sink first ms RunFault.ReadFault =
    (length ms ≤ 1_000_000) × IsTrue source.broken × TakesNoFurtherIn (profile_of work.profile) (length ms) source.left source.left' × Keeps sink.held sink.held'
Stops work source sink first ms (RunFault.WriteFault n) =
    (length ms < 1_000_000) × IsTrue sink.broken × BrokeAt work source.left source.left' first sink.held' ms n
Stops work source sink first ms _ = ⊥

-- the messages before the fault, and why the job went no further; of what follows them no more was taken than a message may have
pub record JobStopsAfter (work : JobOptions) (source : Taking) (sink : Putting) (fault : RunFault) : Type 0 where
  pub messages : List Spelling
  pub rest : Option (List ℕ)
  pub grown : Option (List ℕ)
  pub writes : WritesMessages work source.left rest sink.held grown messages
  pub taken : TakesFront rest source.left'
  pub stops : Stops work (taking rest source.left' source.broken) (putting grown sink.held' sink.broken) sink.held messages fault

-- the job was done: the octets are messages to their end, at most 1,000,000
pub record Done (work : JobOptions) (left left' held held' : Option (List ℕ)) (verdict : Verdict) : Type 0 where
  pub messages : List Spelling
  pub writes : WritesMessages work left left' held held' messages
  pub end : IsAtEnd left'
  pub few : length messages ≤ 1_000_000
  pub is_verdict : verdict ≡ verdict_of (profile_of work.profile) work.job messages

-- the same of an input that is read as octets, or as hexadecimal text
abbrev pub RunDone : Bool → JobOptions → Option (List ℕ) → Option (List ℕ) → Option (List ℕ) → Option (List ℕ) → Verdict → Type 0
RunDone false work left left' held held' verdict = Done work left left' held held' verdict
RunDone true work left left' held held' verdict =
    (octets : List ℕ) × TextOf left left' octets × ((rest : List ℕ) × Done work (Some octets) (Some rest) held held' verdict)

abbrev pub RunFails : Bool → JobOptions → Taking → Putting → RunFault → Type 0
RunFails false work source sink fault = JobStopsAfter work source sink fault
RunFails true work source sink fault =
    (FailsText source.left source.left' source.broken fault × Keeps sink.held sink.held')
    ⊎ ((octets : List ℕ) × TextOf source.left source.left' octets × ((rest : List ℕ) × JobStopsAfter work (taking (Some octets) (Some rest) false) sink fault))

-- the work of a job on an input that no line names, of messages of the profile
pub record IsUnnamed (q : Named) (job : Job) (hex : Bool) (work : JobOptions) : Type 0 where
  pub profile : work.profile ≡ q
  pub same_job : work.job ≡ job
  pub same_hex : work.hex ≡ hex
  pub name : work.name.now ≡ codes "-"
  pub not_named : work.names_input ≡ false
  pub not_compared : work.compares ≡ false
  pub stops : work.on_refusal ≡ OnRefusal.Stop

-- a job was done on an input that no line names
pub record JobDone (q : Named) (job : Job) (hex : Bool) (source : Taking) (sink : Putting) (verdict : Verdict) : Type 0 where
  pub work : JobOptions
  pub unnamed : IsUnnamed q job hex work
  pub done : RunDone hex work source.left source.left' sink.held sink.held' verdict

-- it was not
pub record JobFails (q : Named) (job : Job) (hex : Bool) (source : Taking) (sink : Putting) (fault : RunFault) : Type 0 where
  pub work : JobOptions
  pub unnamed : IsUnnamed q job hex work
  pub fails : RunFails hex work source sink fault

-- ---- which result an input has

abbrev pub AnswersVerdict : Result Verdict RunFault → Verdict → Type 0
AnswersVerdict (Ok v) w = v ≡ w
AnswersVerdict (Err fault) w = IsResourceFault fault

abbrev pub IsRefusedMessage : RunFault → ℕ → Fault → Type 0
IsRefusedMessage (RunFault.Refused message refusal) i f = (message ≡ i) × (fault_of refusal ≡ f)
IsRefusedMessage fault i f = IsResourceFault fault

abbrev pub AnswersRefused : Result Verdict RunFault → ℕ → Fault → Type 0
AnswersRefused (Ok v) i f = ⊥
AnswersRefused (Err fault) i f = IsRefusedMessage fault i f

abbrev pub AnswersFault : Result Verdict RunFault → RunFault → Type 0
AnswersFault (Ok v) fault = ⊥
AnswersFault (Err why) fault = (why ≡ fault) ⊎ IsResourceFault why

-- the octets of an input
abbrev pub octets_of_input : Bool → List ℕ → Result (List ℕ) RunFault
octets_of_input false s = Ok s
octets_of_input true s = hex_octets s

-- at most 1,000,000 messages to the end are done
abbrev pub DoesMessages : Profile → Job → Bool → List ℕ → Result Verdict RunFault → Type 0
DoesMessages q job hex s result = (octets : List ℕ) (ms : List Spelling) → octets_of_input hex s ≡ Ok octets → AreSpelledIn q octets ms []
    → length ms ≤ 1_000_000 → AnswersVerdict result (verdict_of q job ms)

-- the first message that is refused is named
abbrev pub RefusesFirst : Profile → Bool → List ℕ → Result Verdict RunFault → Type 0
RefusesFirst q hex s result = (octets rest : List ℕ) (ms : List Spelling) (f : Fault) → octets_of_input hex s ≡ Ok octets → AreSpelledIn q octets ms rest
    → length ms < 1_000_000 → 0 < length rest → OnlyRefuses q rest f → AnswersRefused result (length ms + 1) f

-- more messages are too many
abbrev pub RefusesMore : Profile → Bool → List ℕ → Result Verdict RunFault → Type 0
RefusesMore q hex s result = (octets rest : List ℕ) (ms : List Spelling) → octets_of_input hex s ≡ Ok octets → AreSpelledIn q octets ms rest
    → length ms ≡ 1_000_000 → 0 < length rest → AnswersFault result RunFault.TooManyMessages

-- a text that stands for no octets is refused
abbrev pub RefusesText : Bool → List ℕ → Result Verdict RunFault → Type 0
RefusesText hex s result = (fault : RunFault) → octets_of_input hex s ≡ Err fault → AnswersFault result fault
