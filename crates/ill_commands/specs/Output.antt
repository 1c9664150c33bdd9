-- What a job writes.
use Rattle.std.specs.Prelude.{ℕ, ◌+◌, ◌==◌, ◌&&◌, Bool, true, false, List, ◌++◌, length, codes, decimal, Option, Some, None}
use Rattle.std.specs.List.{list_all}
use Rattle.hex.specs.Hex.{encode_lower}
use Rattle.sha2.specs.Sha256.{sha256}
use Rattle.ber_leaf.specs.Profile.{Profile}
use Rattle.ill_schema.specs.Apdu.{normal_form_in}
use Rattle.ill_tables.specs.Names.{name_or_none}
use Rattle.ill_schema.specs.Names.{apdu_name_in}
use Rattle.ill_schema.specs.Profiles.{profile_of}
use Rattle.ill_text.specs.Shown.{shown_text_in}
use Rattle.ill_json.specs.Json.{json_line_in}
use Rattle.ill_json.specs.Results.{result_line_of}
use Rattle.ill_json.specs.declared.line.LineHead.{LineHead}
use Rattle.ill_normal.specs.CheckWords.{check_words}
use Rattle.ill_normal.specs.Messages.{Spelling, first, is_normal, output_from}
use Rattle.ill_inputs.specs.Inputs.{label_of, verdict_if}
use Rattle.ill_normal.specs.declared.messages.MessagePlace.{MessagePlace}
use Rattle.ill_normal.specs.declared.counts.Counts.{Counts}
use Rattle.ill_commands.specs.declared.job.Job.{Job}
use Rattle.ill_inputs.specs.declared.verdict.Verdict.{Verdict}
use Rattle.ill_commands.specs.declared.job.JobOptions.{JobOptions}

-- what `check` says of message i of the profile, after a label: the number of its APDU, how many octets it had, whether they are its normal form, and how
-- many that has
abbrev pub line_of_check : Profile → List ℕ → ℕ → ℕ → ℕ → Bool → ℕ → List ℕ
line_of_check q label i number octets normal size =
    label ++ codes "message " ++ decimal i ++ codes ": " ++ check_words (name_or_none (apdu_name_in q number)) octets normal size ++ codes "\n"

abbrev pub check_line : Profile → List ℕ → ℕ → Spelling → List ℕ
check_line q label i m = line_of_check q label i m.apdu.number (length m.octets) (is_normal q m) (length (normal_form_in q m.apdu))

-- what `digest` says of message i of the input of this name: the digest of its normal form (FIPS 180-4, 6.2), the name and the number
abbrev pub line_of_digest : List ℕ → List ℕ → ℕ → List ℕ
line_of_digest digest name i = encode_lower digest ++ codes "  " ++ name ++ codes ":" ++ decimal i ++ codes "\n"

abbrev pub digest_line : Profile → List ℕ → ℕ → Spelling → List ℕ
digest_line q name i m = line_of_digest (sha256 (normal_form_in q m.apdu)) name i

-- the file that a line of JSON names, or none
abbrev pub file_of : Bool → List ℕ → Option (List ℕ)
file_of true name = Some name
file_of false name = None

-- what a line of JSON says of a message of this many octets beside its value
abbrev pub head_of : MessagePlace → ℕ → Bool → LineHead
head_of p octets normal = record { number = p.number; offset = p.offset; octets = octets; is_normal = normal }

-- the line of JSON of a message without its value: the number of its APDU, how many octets it had, whether they are its normal form, and a digest
-- or none
abbrev pub line_of_result : Profile → Bool → List ℕ → MessagePlace → ℕ → ℕ → Bool → Option (List ℕ) → List ℕ
line_of_result q named name p number octets normal digest = result_line_of (file_of named name) (head_of p octets normal) (name_or_none (apdu_name_in q number)) digest

abbrev pub result_line : Profile → Bool → List ℕ → MessagePlace → Spelling → Option (List ℕ) → List ℕ
result_line q named name p m digest = line_of_result q named name p m.apdu.number (length m.octets) (is_normal q m) digest

-- what is written of the message of the profile at this position of the input of this name, which is named or not
abbrev pub message_text : Profile → Job → Bool → List ℕ → Bool → MessagePlace → Spelling → List ℕ
message_text q Job.Show hex name named p m = label_of named name ++ shown_text_in q p.number m.apdu
message_text q Job.Json hex name named p m = json_line_in q (file_of named name) (head_of p (length m.octets) (is_normal q m)) m.apdu
message_text q Job.Check hex name named p m = check_line q (label_of named name) p.number m
message_text q Job.CheckJson hex name named p m = result_line q named name p m None
message_text q Job.DigestJson hex name named p m = result_line q named name p m (Some (sha256 (normal_form_in q m.apdu)))
message_text q Job.Digest hex name named p m = digest_line q name p.number m
message_text q Job.Canonicalise false name named p m = normal_form_in q m.apdu
message_text q Job.Canonicalise true name named p m = encode_lower (normal_form_in q m.apdu) ++ codes "\n"

-- what a job writes of it, where this is the work
abbrev pub text_by : Job → JobOptions → MessagePlace → Spelling → List ℕ
text_by job work = message_text (profile_of work.profile) job work.hex work.name.now work.names_input

abbrev pub message_output : JobOptions → MessagePlace → Spelling → List ℕ
message_output work = text_by work.job work

-- what is written of the messages of an input
abbrev pub output : JobOptions → List Spelling → List ℕ
output work ms = output_from (message_output work) first ms

-- whether the lines of a job are JSON
abbrev pub is_json : Job → Bool
is_json Job.Json = true
is_json Job.CheckJson = true
is_json Job.DigestJson = true
is_json _ = false

-- what a check is asked for, and no other job
abbrev pub is_good : Profile → Job → Spelling → Bool
is_good q Job.Check m = is_normal q m
is_good q Job.CheckJson m = is_normal q m
is_good q _ m = true

-- what counts as good: what is in normal form, where messages are compared, else every message
abbrev pub good_if : Profile → Bool → Spelling → Bool
good_if q true m = is_normal q m
good_if q false m = true

abbrev pub counts_as_good : Profile → Job → Bool → Spelling → Bool
counts_as_good q Job.Check compares m = is_normal q m
counts_as_good q Job.Json compares m = is_normal q m
counts_as_good q Job.CheckJson compares m = is_normal q m
counts_as_good q Job.DigestJson compares m = is_normal q m
counts_as_good q _ compares m = good_if q compares m

-- what counts as good to a job, where this is the work
abbrev pub good_by : Job → JobOptions → Spelling → Bool
good_by job work = counts_as_good (profile_of work.profile) job work.compares

abbrev pub is_counted_good : JobOptions → Spelling → Bool
is_counted_good work = good_by work.job work

abbrev pub verdict_of : Profile → Job → List Spelling → Verdict
verdict_of q job ms = verdict_if (list_all (is_good q job) ms)

-- the verdict by the counts of an input that was read to its end: no message is refused, and what the job asks for holds
abbrev pub verdict_of_counts : Job → Counts → Verdict
verdict_of_counts Job.Check counts = verdict_if ((counts.refused == 0) && (counts.refused + counts.good == counts.messages))
verdict_of_counts Job.CheckJson counts = verdict_if ((counts.refused == 0) && (counts.refused + counts.good == counts.messages))
verdict_of_counts _ counts = verdict_if (counts.refused == 0)
