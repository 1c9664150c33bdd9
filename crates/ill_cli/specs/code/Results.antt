-- The lines of JSON of the messages of an input, accepted or refused.
use Rattle.std.specs.Prelude.{◌≡◌, ℕ, ◌<◌, List, length, take, Option}
use Rattle.std.specs.Io.KnownBytes.{Appends, Keeps}
use Rattle.ill_schema.specs.Profiles.{profile_of}
use Rattle.ill_normal.specs.Calls.{Putting, Taking}
use Rattle.ill_normal.specs.Entries.{BreaksText, Entry, WritesText, accepted, refused}
use Rattle.ill_normal.specs.Reading.{ReadsInput, Reporting}
use Rattle.ill_normal.specs.declared.messages.StreamEnd.{StreamEnd}
use Rattle.ill_normal.specs.declared.write_items.PutError.{PutError}
use Rattle.ill_commands.specs.Output.{is_counted_good, message_output}
use Rattle.ill_commands.specs.Refusals.{IsLineOfRefused}
use Rattle.ill_commands.specs.Runs.{reading_of}
use Rattle.ill_commands.specs.declared.job.JobOptions.{JobOptions}

-- the output of an accepted message is written, and the line of a refused one
abbrev pub WritesResult : JobOptions → Entry → ℕ → List ℕ → Type 0
WritesResult work (accepted p m) n octets = WritesText (message_output work) (accepted p m) n octets
WritesResult work (refused r given) n octets = IsLineOfRefused work r given octets × (n ≡ length octets)

-- where it isn't written whole, nothing of it is for want of memory; or the sink has the first n octets, which are not all
abbrev pub BreaksResult : JobOptions → Entry → PutError → Option (List ℕ) → Option (List ℕ) → Type 0
BreaksResult work (accepted p m) error held held' = BreaksText (message_output work) (accepted p m) error held held'
BreaksResult work (refused r given) PutError.OutOfMemory held held' = Keeps held held'
BreaksResult work (refused r given) (PutError.Broken n) held held' =
    (line : List ℕ) × IsLineOfRefused work r given line × Appends held held' (take n line) × (n < length line)

-- the messages of an input were read up to this end, and the line of each was written
abbrev pub RunsResults : JobOptions → Taking → Putting → Reporting → StreamEnd → Type 0
RunsResults work source sink reports end =
    ReadsInput work.hex (reading_of work) (profile_of work.profile) (WritesResult work) (BreaksResult work) (is_counted_good work) source sink reports end
