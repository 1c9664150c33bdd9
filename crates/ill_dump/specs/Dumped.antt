-- What a dump does to its source and its sink. Of the text that is written only what each message begins with has a definition.
use Rattle.std.specs.Prelude.{◌≡◌, ℕ, nat_eq, Bool, true, if◌then◌else◌, List, [], ◌++◌, codes, decimal, Option, Some, None}
use Rattle.ber_leaf.specs.Profile.{Profile}
use Rattle.ill_schema.specs.Apdu.{Apdu, SpellsApdu}
use Rattle.ill_schema.specs.Profiles.{profile_of}
use Rattle.ill_schema.specs.declared.refusal.Refusal.{Refusal}
use Rattle.ill_refusals.specs.Fault.{fault_of}
use Rattle.ill_read.specs.Answers.{RefusesWholeIn}
use Rattle.ill_inputs.specs.Inputs.{label_of}
use Rattle.ill_normal.specs.Calls.{Taking, Putting}
use Rattle.ill_normal.specs.Entries.{Entry, accepted, refused}
use Rattle.ill_normal.specs.Reading.{ReadsInput, Reporting}
use Rattle.ill_normal.specs.declared.messages.Reading.{Reading}
use Rattle.ill_normal.specs.declared.messages.StreamEnd.{StreamEnd}
use Rattle.ill_walk.specs.Markup.{shown_in, tags_in}
use Rattle.ill_dump.specs.declared.run.DumpOptions.{DumpOptions}

-- what the lines of message i begin with; in HTML tags come first, and the name is escaped
abbrev pub head : DumpOptions → ℕ → List ℕ
head dump i =
    tags_in dump.format (codes "<section><h2>") ++ label_of dump.names_input (shown_in dump.format dump.name.now)
    ++ codes "message " ++ decimal i ++ codes ": "

-- message i is written: each one is, or one alone
abbrev pub is_chosen : Option ℕ → ℕ → Bool
is_chosen None i = true
is_chosen (Some n) i = nat_eq n i

-- what is written of message i: its head, and more; of one that isn't chosen, nothing
abbrev pub dumped : DumpOptions → ℕ → List ℕ → List ℕ
dumped dump i more = if is_chosen dump.only i then head dump i ++ more else []

-- the octets that may be written of an entry; their number isn't counted
abbrev pub WritesLines : DumpOptions → Entry → ℕ → List ℕ → Type 0
WritesLines dump (accepted p m) n octets = (more : List ℕ) × (octets ≡ dumped dump p.number more)
WritesLines dump (refused r given) n octets = (more : List ℕ) × (octets ≡ dumped dump r.message more)

-- how a dump reads its input
abbrev pub reading_of : DumpOptions → Reading
reading_of dump = record { hex = dump.hex; on_refusal = dump.on_refusal; only = dump.only }

-- the messages of an input were read up to this end, and those that are chosen were written. Of one that isn't written whole nothing more is said.
abbrev pub RunsDump : DumpOptions → Taking → Putting → Reporting → StreamEnd → Type 0
RunsDump dump source sink reports end =
    ReadsInput dump.hex (reading_of dump) (profile_of dump.profile) (WritesLines dump) (λ entry error held held'. Unit {0}) (λ m. true) source sink reports end

-- the octets are a message of the profile, or this is why they are not exactly one
abbrev pub IsJudged : Profile → List ℕ → Option Refusal → Type 0
IsJudged p s None = (a : Apdu) × SpellsApdu p a s
IsJudged p s (Some refusal) = RefusesWholeIn p s (fault_of refusal)
