-- The state of the work on the messages of an input, between two of them.
use Rattle.std.specs.Prelude.{◌≡◌, ℕ, ◌+◌, ◌*◌, ◌^◌, ◌≤◌, Bool, List, length, Option, Some, Result, IfErr, OnOk}
use Rattle.ber_leaf.specs.Profile.{Profile}
use Rattle.ill_schema.specs.declared.refusal.Refusal.{Refusal}
use Rattle.ill_inputs.specs.declared.run_fault.RunFault.{RunFault}
use Rattle.ill_normal.specs.Calls.{Taking, taking, Putting, putting}
use Rattle.ill_normal.specs.Counting.{with_last}
use Rattle.ill_normal.specs.Entries.{Entry}
use Rattle.ill_normal.specs.Items.{Item, good_in, position_past, reports_from}
use Rattle.ill_normal.specs.Messages.{Spelling, counted, first, position}
use Rattle.ill_normal.specs.Reading.{GoesPast, Passes, ReadsItems, Reporting, reporting}
use Rattle.ill_normal.specs.declared.counts.Counts.{Counts}
use Rattle.ill_normal.specs.declared.messages.Reading.{Reading}
use Rattle.ill_normal.specs.declared.messages.StreamEnd.{StreamEnd}
use Rattle.ill_normal.specs.declared.report.RefusalReport.{RefusalReport}
use Rattle.ill_normal.specs.declared.write_items.PutError.{PutError}

-- the source, the sink and the reports at a point of the work: what is left, what is held and what was reported, where that is known, and what is broken
pub record Streams : Type 0 where
  pub left : Option (List ℕ)
  pub source_broken : Bool
  pub held : Option (List ℕ)
  pub sink_broken : Bool
  pub reported : Option (List RefusalReport)

abbrev pub streams : Option (List ℕ) → Bool → Option (List ℕ) → Bool → Option (List RefusalReport) → Streams
streams left source_broken held sink_broken reported =
    record { left = left; source_broken = source_broken; held = held; sink_broken = sink_broken; reported = reported }

-- what the source, the sink and the receiver of reports did between two points
abbrev pub taking_of : Streams → Streams → Taking
taking_of from to = taking from.left to.left to.source_broken

abbrev pub putting_of : Streams → Streams → Putting
putting_of from to = putting from.held to.held to.sink_broken

abbrev pub reporting_of : Streams → Streams → Reporting
reporting_of from to = reporting from.reported to.reported

-- no number is too great
pub record IsCounted (counts : Counts) : Type 0 where
  pub sum : counts.refused + counts.good ≤ counts.messages
  pub size : counts.written ≤ counts.messages * 2 ^ 64

abbrev pub stream_end : Counts → Option RunFault → StreamEnd
stream_end counts fault = record { counts = counts; fault = fault }

-- the next message is refused, and the last one
abbrev pub with_last_refused : Counts → Refusal → StreamEnd
with_last_refused counts refusal = stream_end (with_last counts) (Some (RunFault.Refused (counts.messages + 1) refusal))

-- why no more is written, where this many octets were written before
abbrev pub fault_of : ℕ → PutError → Option RunFault
fault_of written PutError.OutOfMemory = Some RunFault.OutOfMemory
fault_of written (PutError.Broken n) = Some (RunFault.WriteFault (written + n))

module _ (reading : Reading) (q : Profile) (writes : Entry → ℕ → List ℕ → Type 0) (fails : Entry → PutError → Option (List ℕ) → Option (List ℕ) → Type 0) (is_good : Spelling → Bool) where
  -- these messages were read, and the work went past them
  pub record HasRead (from to : Streams) (counts : Counts) : Type 0 where
    pub items : List Item
    pub passes : Passes q writes from.left to.left from.held to.held (reporting_of from to) items counts.written
    pub past : GoesPast reading.on_refusal items
    pub count : counts.messages ≡ length items
    pub bad_ones : counts.refused ≡ length (reports_from first items)
    pub good_are : counts.good ≡ good_in is_good items
    pub input : counts.octets ≡ counted (length passes.octets)
    pub next : position_past first items ≡ position (counts.messages + 1) counts.octets

  -- the work that had come so far has ended
  abbrev pub Ends : Streams → Streams → Counts → StreamEnd → Type 0
  Ends was now counts end = (from : Streams) → HasRead from was counts → ReadsItems reading q writes fails is_good (taking_of from now) (putting_of from now) (reporting_of from now) end

  -- the work went past a message, or has ended
  pub record Steps {T : Type 0} (was now : Streams) (counts counts' : Counts) (result : Result T StreamEnd) : Type 0 where
    pub next : (from : Streams) → HasRead from was counts → OnOk result (HasRead from now counts')
    pub ends : IfErr result (Ends was now counts)
