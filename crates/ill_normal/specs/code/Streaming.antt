-- Why a stream of normal forms went no further.
use Rattle.std.specs.Prelude.{ℕ, ◌+◌, ◌-◌, ◌≤◌, List}
use Rattle.ill_schema.specs.Apdu.{normal_form_in}
use Rattle.ill_schema.specs.Profiles.{profile_of}
use Rattle.ill_tables.specs.declared.profile.Profile.{Profile as Named}
use Rattle.ill_inputs.specs.declared.run_fault.RunFault.{RunFault}
use Rattle.ill_normal.specs.Messages.{Spelling}
use Rattle.ill_normal.specs.declared.counts.Counts.{Counts}
use Rattle.ill_normal.specs.declared.failure.NormalFailure.{NormalFailure}
use Rattle.ill_normal.specs.declared.failure.StreamCause.{StreamCause}
use Rattle.ill_normal.specs.declared.failure.StreamFailure.{StreamFailure}
use Rattle.ill_normal.specs.declared.messages.MessagePlace.{MessagePlace}

-- what is written of a message in a stream
abbrev pub normal_text : Named → MessagePlace → Spelling → List ℕ
normal_text q p m = normal_form_in (profile_of q) m.apdu

-- a fault that a stream has, where so many octets were written before; of a normal form no more is written than a message may have
abbrev pub IsCause : ℕ → RunFault → Type 0
IsCause written (RunFault.Refused message refusal) = Unit {0}
IsCause written RunFault.OutOfMemory = Unit {0}
IsCause written RunFault.ReadFault = Unit {0}
IsCause written (RunFault.WriteFault n) = (written ≤ n) × (n ≤ written + 1_048_576)
IsCause written RunFault.TooManyMessages = Unit {0}
IsCause written _ = ⊥

-- the fault, and no more refused messages than there are
abbrev pub IsStreamFault : Counts → RunFault → Type 0
IsStreamFault counts fault = (counts.refused ≤ counts.messages) × IsCause counts.written fault

-- what a stream says of it
abbrev pub stream_cause : ℕ → RunFault → StreamCause
stream_cause written (RunFault.Refused message refusal) = StreamCause.Normal (NormalFailure.Refused refusal)
stream_cause written RunFault.OutOfMemory = StreamCause.Normal NormalFailure.OutOfMemory
stream_cause written RunFault.ReadFault = StreamCause.Normal NormalFailure.ReadFault
stream_cause written (RunFault.WriteFault n) = StreamCause.Normal (NormalFailure.WriteFault (n - written))
stream_cause written _ = StreamCause.TooManyMessages

abbrev pub stream_failure : Counts → RunFault → StreamFailure
stream_failure counts fault = record { whole = counts.messages - counts.refused; before = counts.octets; why = stream_cause counts.written fault }
