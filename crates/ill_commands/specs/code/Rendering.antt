-- What a job needs of each message, and what it makes of one.
use Rattle.std.specs.Prelude.{ℕ, Bool, true, false, List, Result, IfOk}
use Rattle.std.specs.declared.alloc.AllocError.{AllocError}
use Rattle.ill_schema.specs.Profiles.{profile_of}
use Rattle.ill_normal.specs.ReadMessages.{IsMessage, wants}
use Rattle.ill_normal.specs.declared.message_reader.ReadMessage.{ReadMessage}
use Rattle.ill_normal.specs.declared.message_reader.Wants.{Wants}
use Rattle.ill_normal.specs.declared.messages.MessagePlace.{MessagePlace}
use Rattle.ill_commands.specs.declared.written.RenderedMessage.{RenderedMessage}
use Rattle.ill_commands.specs.declared.job.Job.{Job}
use Rattle.ill_commands.specs.declared.job.JobOptions.{JobOptions}
use Rattle.ill_normal.specs.Messages.{spelling}
use Rattle.ill_commands.specs.code.Writing.{IsPieceOf}

-- the octets where messages are compared, and the outline where values are written
abbrev pub needs_of : Job → Bool → Wants
needs_of Job.Show compares = wants compares true
needs_of Job.Json compares = wants true true
needs_of Job.Check compares = wants true false
needs_of Job.CheckJson compares = wants true false
needs_of Job.DigestJson compares = wants true false
needs_of _ compares = wants compares false

-- the piece has what the job writes of the message that was read, unless memory ran out
abbrev pub Renders : Job → JobOptions → MessagePlace → ReadMessage → Result RenderedMessage AllocError → Type 0
Renders job work place message result =
    (octets : List ℕ) → (h : IsMessage (profile_of work.profile) (needs_of job work.compares) message octets) → IfOk result (λ piece. IsPieceOf job work place piece (spelling h.apdu octets))
