-- What an order does: which job, by which flags.
use Rattle.std.specs.Prelude.{ℕ, Bool, true, false, List, ◌||◌, if◌then◌else◌, is_some, nat_lt}
use Rattle.std.specs.Borrow.{Bor}
use Rattle.ill_commands.specs.declared.job.Job.{Job}
use Rattle.ill_commands.specs.declared.job.JobOptions.{JobOptions}
use Rattle.ill_walk.specs.declared.markup.DumpFormat.{DumpFormat}
use Rattle.ill_walk.specs.declared.markup.DumpFormat.TheVariants.{Html, Text}
use Rattle.ill_dump.specs.declared.run.DumpOptions.{DumpOptions}
use Rattle.ill_commands.specs.HexLines.{line_options}
use Rattle.ill_commands.specs.declared.lines.job.LineJob.{LineJob}
use Rattle.ill_args.specs.declared.orders.BuildResults.{BuildResults}
use Rattle.ill_args.specs.declared.orders.Elements.{Elements}
use Rattle.ill_args.specs.declared.orders.FileJob.{FileJob}
use Rattle.ill_args.specs.declared.orders.FormJob.{FormJob}
use Rattle.ill_args.specs.declared.orders.LineResults.{LineResults}
use Rattle.ill_args.specs.declared.orders.Messages.{Messages}
use Rattle.ill_args.specs.declared.orders.Reading.{Reading}
use Rattle.ill_args.specs.declared.orders.Report.{Report}
use Rattle.ill_args.specs.declared.orders.Work.{Work}
use Rattle.ill_normal.specs.declared.messages.OnRefusal.{OnRefusal}
use Rattle.ill_cli.specs.declared.build.BuildForm.{BuildForm}
use Rattle.ill_cli.specs.declared.build.BuildOptions.{BuildOptions}
use Rattle.ill_cli.specs.declared.plan.Action.{Action}
use Rattle.ill_cli.specs.declared.plan.InputAction.{InputAction}
use Rattle.ill_cli.specs.declared.plan.ReadOptions.{ReadOptions}

-- `--profile` and `--hex` say how messages are read
abbrev pub options_of_reading : Reading → ReadOptions
options_of_reading reading = record { profile = reading.profile; hex = reading.hex; keep_going = false; compares = false; names_inputs = false }

-- and so do `--keep-going` and `--summary`; `-H` says that lines name their input
abbrev pub read_options_of : Messages → Bool → ReadOptions
read_options_of messages with_filename = record (options_of_reading messages.reading) {
  keep_going = is_some messages.keep_going;
  compares = messages.summary;
  names_inputs = with_filename;
}

-- what is printed of a message, with `--json` and without
abbrev pub job_of : FileJob → Bool → Job
job_of FileJob.Show json = if json then Job.Json else Job.Show
job_of (FileJob.Report Report.Check) json = if json then Job.CheckJson else Job.Check
job_of (FileJob.Report Report.Digest) json = if json then Job.DigestJson else Job.Digest

-- the result of a line
abbrev pub line_job_of : LineResults → LineJob
line_job_of (LineResults.Report Report.Check) = LineJob.Check
line_job_of (LineResults.Report Report.Digest) = LineJob.Digest
line_job_of _ = LineJob.Canonicalise

-- the results of lines that are built; `--hex` asks for digits
abbrev pub build_form_of : BuildResults → Bool → BuildForm
build_form_of BuildResults.Messages hex = if hex then BuildForm.Digits else BuildForm.Octets
build_form_of BuildResults.Lines hex = BuildForm.Lines
build_form_of BuildResults.Json hex = BuildForm.Json

-- normal forms of messages, or of what lines say
abbrev pub form_action_of : FormJob → Messages → Action
form_action_of FormJob.Canonicalise messages = Action.Messages Job.Canonicalise (read_options_of messages false)
form_action_of (FormJob.Build building) messages =
    Action.Build (build_form_of building.results messages.reading.hex) building.write_defaults (read_options_of messages building.with_filename)

-- what an order does with each of its inputs
abbrev pub action_of : Work → Action
action_of (Work.Print job json with_filename messages inputs) = Action.Messages (job_of job json) (read_options_of messages with_filename)
action_of (Work.Dump elements with_filename inputs) = Action.Elements elements with_filename
action_of (Work.Write job messages input output) = form_action_of job messages
action_of (Work.Collect job messages inputs output) = form_action_of job messages
action_of (Work.Lines profile input results) = Action.Lines (line_options profile (line_job_of results))

-- the results of messages are lines of JSON
abbrev pub is_json_result : Job → Bool
is_json_result Job.CheckJson = true
is_json_result Job.DigestJson = true
is_json_result _ = false

-- lines name their input, even if there is one
abbrev pub names_inputs : Action → Bool
names_inputs (Action.Messages job reading) = reading.names_inputs
names_inputs (Action.Elements elements with_filename) = with_filename || elements.html
names_inputs (Action.Lines options) = false
names_inputs (Action.Build form defaults reading) = reading.names_inputs

-- what is written of all inputs is one HTML document
abbrev pub is_document : Action → Bool
is_document (Action.Elements elements with_filename) = elements.html
is_document _ = false

-- with `--keep-going` the work goes on after a refused message; else it ends so
abbrev pub on_refusal_of : Bool → OnRefusal → OnRefusal
on_refusal_of keep_going last = if keep_going then OnRefusal.GoOn else last

-- the work of a job on the input of this name, which its lines have where it is one of several, or where that is asked for
abbrev pub options_of : Job → ReadOptions → Bor (List ℕ) → ℕ → JobOptions
options_of job reading name count = record {
  job = job;
  profile = reading.profile;
  hex = reading.hex;
  name = name;
  names_input = reading.names_inputs || nat_lt 1 count;
  compares = reading.compares;
  on_refusal = on_refusal_of reading.keep_going OnRefusal.Stop;
}

abbrev pub format_if : Bool → DumpFormat
format_if html = if html then Html else Text

-- the same for a dump; `--message` says which message is written alone, and `--html` that there is a document
abbrev pub dump_of : Elements → Bool → Bor (List ℕ) → ℕ → DumpOptions
dump_of elements with_filename name count = record {
  profile = elements.reading.profile;
  hex = elements.reading.hex;
  name = name;
  names_input = (with_filename || elements.html) || nat_lt 1 count;
  only = elements.message;
  format = format_if elements.html;
  on_refusal = on_refusal_of (is_some elements.keep_going) OnRefusal.EndWith;
}

-- each line has its result by `--lines`, so that none ends the work
abbrev pub is_by_lines : BuildForm → Bool
is_by_lines BuildForm.Lines = true
is_by_lines _ = false

-- the same for lines that are built
abbrev pub building_of : BuildForm → Bool → ReadOptions → Bor (List ℕ) → ℕ → BuildOptions
building_of form defaults reading name count = record {
  form = form;
  writes_defaults = defaults;
  profile = reading.profile;
  name = name;
  names_input = reading.names_inputs || nat_lt 1 count;
  goes_on = reading.keep_going || is_by_lines form;
}

-- what is done with the input of this name, one of this many
abbrev pub input_action_of : Action → Bor (List ℕ) → ℕ → InputAction
input_action_of (Action.Messages job reading) name count = InputAction.Messages (options_of job reading name count)
input_action_of (Action.Elements elements with_filename) name count = InputAction.Elements (dump_of elements with_filename name count)
input_action_of (Action.Lines work) name count = InputAction.Lines work
input_action_of (Action.Build form defaults reading) name count = InputAction.Build (building_of form defaults reading name count)
