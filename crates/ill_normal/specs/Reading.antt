-- What work on the messages of an input does: which messages it reads, what it writes and reports of each, and why it ends.
use Rattle.std.specs.Prelude.{◌≡◌, ◌⊎◌, ℕ, ◌+◌, ◌<◌, ◌≤◌, Bool, true, false, List, [], ◌∷◌, length, Option, Some, None, IfSome, IsTrue}
use Rattle.std.specs.Io.KnownBytes.{Consumes, Appends, IsAtEnd}
use Rattle.ber_leaf.specs.Profile.{Profile}
use Rattle.ill_schema.specs.Apdu.{SpellsApdu}
use Rattle.ill_schema.specs.declared.refusal.Refusal.{Refusal}
use Rattle.ill_refusals.specs.Fault.{fault_of}
use Rattle.ill_refusals.specs.Outcome.{OnlyRefuses}
use Rattle.ill_read.specs.Answers.{TakesFront}
use Rattle.ill_inputs.specs.Inputs.{FailsText, TextOf}
use Rattle.ill_inputs.specs.declared.run_fault.RunFault.{RunFault}
use Rattle.ill_normal.specs.Calls.{Taking, taking, Putting, putting}
use Rattle.ill_normal.specs.Counting.{no_counts}
use Rattle.ill_normal.specs.Entries.{Entry, accepted, refused, AreWritten, Puts}
use Rattle.ill_normal.specs.Items.{Item, good, bad, AreItems, position_past, report, reports_from, good_in, Adds}
use Rattle.ill_normal.specs.Messages.{Spelling, counted, first, TakesNoFurtherIn}
use Rattle.ill_normal.specs.Next.{IsNextRefused}
use Rattle.ill_normal.specs.declared.messages.MessagePlace.{MessagePlace}
use Rattle.ill_normal.specs.declared.messages.OnRefusal.{OnRefusal}
use Rattle.ill_normal.specs.declared.messages.Reading.{Reading}
use Rattle.ill_normal.specs.declared.messages.StreamEnd.{StreamEnd}
use Rattle.ill_normal.specs.declared.report.RefusalReport.{RefusalReport}
use Rattle.ill_normal.specs.declared.write_items.PutError.{PutError}

-- what was reported, over a call, where that is known
pub record Reporting : Type 0 where
  pub old : Option (List RefusalReport)
  pub new : Option (List RefusalReport)

abbrev pub reporting : Option (List RefusalReport) → Option (List RefusalReport) → Reporting
reporting old new = record { old = old; new = new }

-- the octets that were taken are these messages; their output was put, which counts as n, and those that are refused were reported
pub record Passes (q : Profile) (writes : Entry → ℕ → List ℕ → Type 0) (left left' held held' : Option (List ℕ)) (reports : Reporting) (items : List Item) (n : ℕ) : Type 0 where
  pub octets : List ℕ
  pub are : AreItems q octets items []
  pub taken : Consumes left left' octets
  pub output : List ℕ
  pub written : AreWritten writes first items n output
  pub put : Appends held held' output
  pub reported : Adds reports.old reports.new (reports_from first items)

-- no message is refused
abbrev pub AreAccepted : List Item → Type 0
AreAccepted [] = Unit {0}
AreAccepted (good m ∷ items) = AreAccepted items
AreAccepted (bad octets refusal ∷ items) = ⊥

-- the work goes on after these messages: where it ends with a refused one, none of them is refused
abbrev pub GoesPast : OnRefusal → List Item → Type 0
GoesPast OnRefusal.GoOn items = Unit {0}
GoesPast _ items = AreAccepted items

-- of what follows these messages no more is taken than a message may have, where the work stops at a refused one
abbrev pub TakesLast : OnRefusal → Option (List ℕ) → Option (List ℕ) → Type 0
TakesLast OnRefusal.Stop left left' = TakesFront left left'
TakesLast _ left left' = Unit {0}

-- nothing was written
abbrev pub IsStill : Putting → Type 0
IsStill sink = sink.held ≡ sink.held'

-- nothing was reported
abbrev pub IsQuiet : Reporting → Type 0
IsQuiet reports = reports.old ≡ reports.new

-- octets are left, and their one fault is that of the refusal
abbrev pub RefusesRest : Profile → Option (List ℕ) → Refusal → Type 0
RefusesRest q left refusal = IfSome left (λ s. (0 < length s) × OnlyRefuses q s (fault_of refusal))

module _ (q : Profile) (writes : Entry → ℕ → List ℕ → Type 0) (fails : Entry → PutError → Option (List ℕ) → Option (List ℕ) → Type 0) where
  -- the output for a refused message was put
  abbrev pub PutsRefused : Putting → RefusalReport → List ℕ → Type 0
  PutsRefused sink r octets = (n : ℕ) × Puts writes (refused r octets) n sink.held sink.held'

  -- the message at this place is refused, and no other is read: the work ends with a refused message, or the end of this one can't be known. Where it
  -- stops at the message, nothing is written of it; its report is made where the work goes on.
  abbrev pub IsLast : OnRefusal → Taking → Putting → Reporting → MessagePlace → Refusal → Type 0
  IsLast OnRefusal.Stop source sink reports next refusal = RefusesRest q source.left refusal × IsStill sink × IsQuiet reports
  IsLast OnRefusal.EndWith source sink reports next refusal =
      RefusesRest q source.left refusal × ((octets : List ℕ) × PutsRefused sink (report next refusal None) octets) × IsQuiet reports
  IsLast OnRefusal.GoOn source sink reports next refusal =
      (octets : List ℕ) × IsNextRefused q source.left source.left' octets refusal None × PutsRefused sink (report next refusal None) octets
      × Adds reports.old reports.new (report next refusal None ∷ [])

  -- the message at this place is refused, and its report was not taken
  pub record IsUnreported (source : Taking) (sink : Putting) (reports : Reporting) (next : MessagePlace) : Type 0 where
    pub octets : List ℕ
    pub refusal : Refusal
    pub end : Option ℕ
    pub is : IsNextRefused q source.left source.left' octets refusal end
    pub put : PutsRefused sink (report next refusal end) octets
    pub none : Adds reports.old reports.new []

  -- an entry for the message at this place
  abbrev pub IsNextEntry : Taking → MessagePlace → Entry → Type 0
  IsNextEntry source next (accepted p m) = (p ≡ next) × SpellsApdu q m.apdu m.octets × Consumes source.left source.left' m.octets
  IsNextEntry source next (refused r octets) = (refusal : Refusal) × (end : Option ℕ) × (r ≡ report next refusal end)

  -- the output for the message at this place was not put whole, for this reason
  abbrev pub IsNotPut : Taking → Putting → MessagePlace → PutError → Type 0
  IsNotPut source sink next error = (entry : Entry) × IsNextEntry source next entry × fails entry error sink.held sink.held'

  -- why no further message was read, after `before` of them, of whose output `written` octets were counted: the input is at its end, or no other
  -- message is asked for, or there is this fault. `next` is the place of the next message.
  abbrev pub EndsFor : Reading → Taking → Putting → Reporting → ℕ → MessagePlace → ℕ → Option RunFault → Type 0
  EndsFor reading source sink reports before next written None =
      (before ≤ 1_000_000) × Consumes source.left source.left' [] × (IsAtEnd source.left' ⊎ (reading.only ≡ Some before)) × IsStill sink × IsQuiet reports
  EndsFor reading source sink reports before next written (Some (RunFault.Refused message refusal)) =
      (before < 1_000_000) × (message ≡ before + 1) × IsLast reading.on_refusal source sink reports next refusal
  EndsFor reading source sink reports before next written (Some RunFault.OutOfMemory) =
      (before < 1_000_000) × (IsStill sink ⊎ IsNotPut source sink next PutError.OutOfMemory) × IsQuiet reports
  EndsFor reading source sink reports before next written (Some RunFault.ReadFault) =
      (before ≤ 1_000_000) × IsTrue source.broken × TakesNoFurtherIn q before source.left source.left' × IsStill sink × IsQuiet reports
  EndsFor reading source sink reports before next written (Some (RunFault.WriteFault n)) =
      (before < 1_000_000) × IsTrue sink.broken × ((k : ℕ) × IsNotPut source sink next (PutError.Broken k) × (n ≡ written + k)) × IsQuiet reports
  EndsFor reading source sink reports before next written (Some RunFault.NotReported) =
      (before < 1_000_000) × (reading.on_refusal ≡ OnRefusal.GoOn) × IsUnreported source sink reports next
  EndsFor reading source sink reports before next written (Some RunFault.TooManyMessages) =
      (before ≡ 1_000_000) × ((octet : ℕ) × Consumes source.left source.left' (octet ∷ [])) × IsStill sink × IsQuiet reports
  EndsFor reading source sink reports before next written _ = ⊥

-- the messages that are counted, and that the work didn't go past
abbrev pub last_of : Option RunFault → ℕ
last_of (Some (RunFault.Refused message refusal)) = 1
last_of _ = 0

-- the messages of an input up to where the work ended
pub record ReadsItems (reading : Reading) (q : Profile) (writes : Entry → ℕ → List ℕ → Type 0) (fails : Entry → PutError → Option (List ℕ) → Option (List ℕ) → Type 0) (is_good : Spelling → Bool) (source : Taking) (sink : Putting) (reports : Reporting) (end : StreamEnd) : Type 0 where
  pub items : List Item
  pub rest : Option (List ℕ)
  pub grown : Option (List ℕ)
  pub reported : Option (List RefusalReport)
  pub passes : Passes q writes source.left rest sink.held grown (reporting reports.old reported) items end.counts.written
  pub past : GoesPast reading.on_refusal items
  pub taken : TakesLast reading.on_refusal rest source.left'
  pub messages : end.counts.messages ≡ length items + last_of end.fault
  pub refused_are : end.counts.refused ≡ length (reports_from first items) + last_of end.fault
  pub good_are : end.counts.good ≡ good_in is_good items
  pub octets : end.counts.octets ≡ counted (length passes.octets)
  pub ends : EndsFor q writes fails reading (taking rest source.left' source.broken) (putting grown sink.held' sink.broken) (reporting reported reports.new) (length items) (position_past first items) end.counts.written end.fault

-- the same of an input that is read as octets, or as hexadecimal text, which is read whole first; where that isn't read nothing is written or reported
abbrev pub ReadsInput : Bool → Reading → Profile → (Entry → ℕ → List ℕ → Type 0) → (Entry → PutError → Option (List ℕ) → Option (List ℕ) → Type 0) → (Spelling → Bool) → Taking → Putting → Reporting → StreamEnd → Type 0
ReadsInput false reading q writes fails is_good source sink reports end = ReadsItems reading q writes fails is_good source sink reports end
ReadsInput true reading q writes fails is_good source sink reports end =
    ((fault : RunFault) × (end.fault ≡ Some fault) × FailsText source.left source.left' source.broken fault × (end.counts ≡ no_counts) × IsStill sink × IsQuiet reports)
    ⊎ ((text : List ℕ) × TextOf source.left source.left' text × ((rest : List ℕ) × ReadsItems reading q writes fails is_good (taking (Some text) (Some rest) false) sink reports end))
