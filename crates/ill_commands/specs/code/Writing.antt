-- The octets that are written of a message.
use Rattle.std.specs.Prelude.{◌≡◌, ℕ, ◌^◌, ◌≤◌, List, ◌++◌, length}
use Rattle.ber_leaf.specs.Profile.{Profile}
use Rattle.ill_schema.specs.Apdu.{normal_form_in}
use Rattle.ill_normal.specs.Messages.{Spelling, is_normal}
use Rattle.ill_normal.specs.declared.check.Checked.{Checked}
use Rattle.ill_commands.specs.declared.written.RenderedMessage.{RenderedMessage}
use Rattle.ill_normal.specs.declared.messages.MessagePlace.{MessagePlace}
use Rattle.ill_text.specs.TextOf.{IsTextOf}
use Rattle.ill_text.specs.declared.text.Text.{Text}
use Rattle.ill_commands.specs.declared.job.Job.{Job}
use Rattle.ill_commands.specs.declared.job.JobOptions.{JobOptions}
use Rattle.ill_commands.specs.declared.written.JobOutput.{JobOutput}
use Rattle.ill_commands.specs.Output.{good_by, text_by}

-- a text after a label, which is short enough that the octets can be counted
abbrev pub IsShown : List ℕ → Text → List ℕ → Type 0
IsShown label text octets = (shown : List ℕ) × IsTextOf text shown × (octets ≡ label ++ shown) × (length label ≤ 2 ^ 62)

abbrev pub IsWritten : JobOutput → List ℕ → Type 0
IsWritten (JobOutput.Octets v) octets = v.items ≡ octets
IsWritten (JobOutput.Shown label text) octets = IsShown label.items text octets

-- the piece has what the job writes of the message at this place, and says whether it counts as good
abbrev pub IsPieceOf : Job → JobOptions → MessagePlace → RenderedMessage → Spelling → Type 0
IsPieceOf job work place piece message = IsWritten piece.text (text_by job work place message) × (piece.is_good ≡ good_by job work message)

-- the numbers of a message that was checked
abbrev pub IsCheckOf : Profile → Checked → Spelling → Type 0
IsCheckOf q x m = (x.apdu ≡ m.apdu.number) × (x.octets ≡ length m.octets) × (x.normal ≡ length (normal_form_in q m.apdu)) × (x.is_normal ≡ is_normal q m)
