-- Which words give an order.
use Rattle.std.specs.Prelude.{◌≡◌, ◌≢◌, ◌⊎◌, ◌<◌, ◌+◌, ◌^◌, ℕ, Bool, true, false, List, [], ◌∷◌, map, codes, count_by, Option, Some, None, option_and_then, option_map, unwrap_or, IfSome, IsSomeAnd}
use Rattle.std.specs.Option.{option_map_or}
use Rattle.std.specs.Borrow.{Bor}
use Rattle.std.specs.Str.{bytes_eq}
use Rattle.std.specs.Str.Parse.{IsNumeral, digits_value, without_leading_plus}
use Rattle.clap.specs.Walk.{Row, Text, all_of, first_of, one_of}
use Rattle.ill_tables.specs.declared.profile.Profile.{Profile}
use Rattle.ill_args.specs.CommandLine.{profile_name, verb_name}
use Rattle.ill_args.specs.declared.orders.Elements.{Elements}
use Rattle.ill_args.specs.declared.orders.BuildResults.{BuildResults}
use Rattle.ill_args.specs.declared.orders.Building.{Building}
use Rattle.ill_args.specs.declared.orders.FileJob.{FileJob}
use Rattle.ill_args.specs.declared.orders.FormJob.{FormJob}
use Rattle.ill_args.specs.declared.orders.FormVerb.{FormVerb}
use Rattle.ill_args.specs.declared.orders.Inputs.{Inputs}
use Rattle.ill_args.specs.declared.orders.KeepGoing.{KeepGoing}
use Rattle.ill_args.specs.declared.orders.Limit.{Limit}
use Rattle.ill_args.specs.declared.orders.LineResults.{LineResults}
use Rattle.ill_args.specs.declared.orders.Messages.{Messages}
use Rattle.ill_args.specs.declared.orders.Order.{Order}
use Rattle.ill_args.specs.declared.orders.Reading.{Reading}
use Rattle.ill_args.specs.declared.orders.Report.{Report}
use Rattle.ill_args.specs.declared.orders.Target.{Target}
use Rattle.ill_args.specs.declared.orders.Verb.{Verb}
use Rattle.ill_args.specs.declared.orders.Work.{Work}

-- the report that a job writes, which it can write of lines, too
abbrev pub report_of : FileJob → Option Report
report_of (FileJob.Report report) = Some report
report_of _ = None

-- the command that the results of lines are of, work, and an order
abbrev pub verb_of_results : LineResults → Verb
verb_of_results (LineResults.Report report) = Verb.Print (FileJob.Report report)
verb_of_results _ = Verb.Write FormVerb.Canonicalise

-- the command that writes normal forms of this source
abbrev pub form_verb : FormJob → FormVerb
form_verb FormJob.Canonicalise = FormVerb.Canonicalise
form_verb (FormJob.Build building) = FormVerb.Build

abbrev pub verb_of_work : Work → Verb
verb_of_work (Work.Print job json with_filename messages inputs) = Verb.Print job
verb_of_work (Work.Dump elements with_filename inputs) = Verb.Dump
verb_of_work (Work.Write job messages input output) = Verb.Write (form_verb job)
verb_of_work (Work.Collect job messages inputs output) = Verb.Write (form_verb job)
verb_of_work (Work.Lines profile input results) = verb_of_results results

abbrev pub verb : Order → Verb
verb (Order.Each work) = verb_of_work work
verb (Order.Compare reading first second) = Verb.Same

-- a line at the end says how many files and messages there were
abbrev pub is_counted : Work → Bool
is_counted (Work.Print job json with_filename messages inputs) = messages.summary
is_counted (Work.Write job messages input output) = messages.summary
is_counted (Work.Collect job messages inputs output) = messages.summary
is_counted _ = false

-- the file that gets the octets of refused messages
abbrev pub refused_of : Messages → Option (Bor Text)
refused_of messages = option_and_then (λ (going : KeepGoing). going.refused) messages.keep_going

abbrev pub limit_of : Messages → Option ℕ
limit_of messages = option_and_then (λ (going : KeepGoing). going.limit.max_refused) messages.keep_going

-- the number of the refused message that ends the work
abbrev pub max_refused_of : Work → Option ℕ
max_refused_of (Work.Print job json with_filename messages inputs) = limit_of messages
max_refused_of (Work.Dump elements with_filename inputs) = option_and_then (λ (limit : Limit). limit.max_refused) elements.keep_going
max_refused_of (Work.Write job messages input output) = limit_of messages
max_refused_of (Work.Collect job messages inputs output) = limit_of messages
max_refused_of _ = None

-- reports are lines of JSON
abbrev pub has_json_reports : Work → Bool
has_json_reports (Work.Print (FileJob.Report report) json with_filename messages inputs) = json
has_json_reports _ = false

-- ---- words

-- the flag of this name is set; a command that has no such flag finds none
abbrev pub is_set : Text → List Row → Bool
is_set name rows = option_map_or (λ text. bytes_eq text (codes "true")) (one_of name rows) false

-- the value of an option is the word for this number, in decimal digits; there is none where it has no value, or one that is no such word
abbrev pub IsOptionNumber : Option Text → Option ℕ → Type 0
IsOptionNumber None number = number ≡ None
IsOptionNumber (Some word) (Some n) = (IsNumeral 10 (without_leading_plus word) × (digits_value 10 (without_leading_plus word) < 2 ^ 32)) × (n ≡ digits_value 10 (without_leading_plus word))
IsOptionNumber (Some word) None = IsNumeral 10 (without_leading_plus word) × (digits_value 10 (without_leading_plus word) < 2 ^ 32) → ⊥

-- the value of `--profile` is the word for this profile
abbrev pub NamesProfile : List Row → Profile → Type 0
NamesProfile rows profile = first_of (codes "profile") rows ≡ Some (profile_name profile)

-- the words FILE
abbrev pub files_in : List Row → List Text
files_in rows = unwrap_or (all_of (codes "file") rows) []

-- the word of `--files-from`
abbrev pub list_in : List Row → Option Text
list_in rows = first_of (codes "files-from") rows

-- how many of the words are this name
abbrev pub times : Text → List Text → ℕ
times name words = count_by (λ word. bytes_eq word name) words

abbrev pub list_times : Text → Option Text → ℕ
list_times name None = 0
list_times name (Some list) = times name (list ∷ [])

-- how often a file of this name is read
abbrev pub reads : List Row → Text → ℕ
reads rows name = times name (files_in rows) + list_times name (list_in rows)

-- one file, and no list of files
abbrev pub HasOne : List Row → Text → Type 0
HasOne rows file = (files_in rows ≡ file ∷ []) × (list_in rows ≡ None)

-- two words and no other, and neither `-o` nor `--files-from`
abbrev pub HasTwo : List Row → Text → Text → Type 0
HasTwo rows input output = (files_in rows ≡ input ∷ output ∷ []) × (list_in rows ≡ None) × (first_of (codes "output") rows ≡ None)

-- the two files of `same`
abbrev pub HasPair : List Row → Text → Text → Type 0
HasPair rows first second = (first_of (codes "first") rows ≡ Some first) × (first_of (codes "second") rows ≡ Some second)

-- ---- what is wrong with files

-- neither a file nor a list of files
abbrev pub NamesNothing : List Row → Type 0
NamesNothing rows = (files_in rows ≡ []) × (list_in rows ≡ None)

-- standard input is among the files twice, or is their list, too
abbrev pub ReadsInputTwice : List Row → Type 0
ReadsInputTwice rows = 1 < reads rows (codes "-")

-- the word of `-o` is among the files that are read, or is their list; it isn't standard output
abbrev pub ReadsOutput : List Row → Type 0
ReadsOutput rows = IsSomeAnd (first_of (codes "output") rows) (λ word. (word ≢ codes "-") × (0 < reads rows word))

-- refused messages are to go to standard output, or to another file of the command
abbrev pub SharesRefused : List Row → Type 0
SharesRefused rows =
    IsSomeAnd (first_of (codes "refused") rows) (λ word. (word ≡ codes "-") ⊎ ((0 < reads rows word) ⊎ (first_of (codes "output") rows ≡ Some word)))

-- ---- the parts of an order

-- the files of a job are the words FILE, and the word of `--files-from`
abbrev pub HasInputs : List Row → Inputs → Type 0
HasInputs rows inputs = (files_in rows ≡ map (λ word. word.now) inputs.files.items) × (list_in rows ≡ option_map (λ word. word.now) inputs.list)

-- there are files, and standard input is not read twice
pub record AreInputs (rows : List Row) (inputs : Inputs) : Type 0 where
  pub files : HasInputs rows inputs
  pub some : NamesNothing rows → ⊥
  pub once : ReadsInputTwice rows → ⊥

pub record IsReading (rows : List Row) (reading : Reading) : Type 0 where
  pub profile : NamesProfile rows reading.profile
  pub hex : reading.hex ≡ is_set (codes "hex") rows

-- a limit comes with `--keep-going` alone
abbrev pub IsLimit : List Row → Option Limit → Type 0
IsLimit rows None = (is_set (codes "keep-going") rows ≡ false) × IsOptionNumber (one_of (codes "max-refused") rows) None
IsLimit rows (Some limit) = (is_set (codes "keep-going") rows ≡ true) × IsOptionNumber (one_of (codes "max-refused") rows) limit.max_refused

-- so does a file of refused messages, which is no other file of the command
abbrev pub IsKeepGoing : List Row → Option KeepGoing → Type 0
IsKeepGoing rows None = IsLimit rows None × (first_of (codes "refused") rows ≡ None)
IsKeepGoing rows (Some going) = IsLimit rows (Some going.limit) × (first_of (codes "refused") rows ≡ option_map (λ word. word.now) going.refused)

-- a message after another is read, and not a line
pub record AreMessages (rows : List Row) (messages : Messages) : Type 0 where
  pub reading : IsReading rows messages.reading
  pub keep_going : IsKeepGoing rows messages.keep_going
  pub own : SharesRefused rows → ⊥
  pub summary : messages.summary ≡ is_set (codes "summary") rows

pub record AreElements (rows : List Row) (elements : Elements) : Type 0 where
  pub reading : IsReading rows elements.reading
  pub keep_going : IsLimit rows elements.keep_going
  pub message : IsOptionNumber (one_of (codes "message") rows) elements.message
  pub html : elements.html ≡ is_set (codes "html") rows

-- the word for OUT
abbrev pub target_name : Target → Text
target_name Target.StandardOutput = codes "-"
target_name (Target.File name whole) = name.now

abbrev pub is_whole : Target → Bool
is_whole Target.StandardOutput = false
is_whole (Target.File name whole) = whole

-- OUT is replaced as a whole if `--whole` says so, which standard output is not
abbrev pub IsTarget : List Row → Target → Type 0
IsTarget rows Target.StandardOutput = is_set (codes "whole") rows ≡ false
IsTarget rows (Target.File name whole) = (name.now ≢ codes "-") × (whole ≡ is_set (codes "whole") rows)

-- IN and OUT, which are not the same word other than `-`
pub record AreInAndOut (rows : List Row) (input : Text) (output : Target) : Type 0 where
  pub words : HasTwo rows input (target_name output)
  pub target : IsTarget rows output
  pub differ : input ≢ codes "-" → target_name output ≢ input

-- OUT is the word of `-o`, and none of the files that are read
pub record HasOutput (rows : List Row) (output : Target) : Type 0 where
  pub word : first_of (codes "output") rows ≡ Some (target_name output)
  pub target : IsTarget rows output
  pub not_read : ReadsOutput rows → ⊥

-- lines are texts of their own, none is passed over, and their results are in words and not counted
pub record HasLines (rows : List Row) : Type 0 where
  pub lines : is_set (codes "lines") rows ≡ true
  pub hex : is_set (codes "hex") rows ≡ false
  pub keep_going : IsKeepGoing rows None
  pub summary : is_set (codes "summary") rows ≡ false
  pub json : is_set (codes "json") rows ≡ false

abbrev pub HasResults : List Row → Text → LineResults → Type 0
HasResults rows input (LineResults.Report report) = HasOne rows input
HasResults rows input (LineResults.Write output) = AreInAndOut rows input output
HasResults rows input (LineResults.Collect output) = HasOne rows input × HasOutput rows output

-- the results of lines that are built: what `--lines` says, or `--json`, or else the messages
abbrev pub HasBuildResults : List Row → BuildResults → Type 0
HasBuildResults rows BuildResults.Lines = HasLines rows
HasBuildResults rows BuildResults.Json = (is_set (codes "lines") rows ≡ false) × (is_set (codes "json") rows ≡ true)
HasBuildResults rows BuildResults.Messages = (is_set (codes "lines") rows ≡ false) × (is_set (codes "json") rows ≡ false)

pub record IsBuilding (rows : List Row) (building : Building) : Type 0 where
  pub results : HasBuildResults rows building.results
  pub defaults : building.write_defaults ≡ is_set (codes "write-defaults") rows
  pub names : building.with_filename ≡ is_set (codes "with-filename") rows

-- messages are read, and not lines in hexadecimal; or lines are built
abbrev pub HasFormJob : List Row → FormJob → Type 0
HasFormJob rows FormJob.Canonicalise = is_set (codes "lines") rows ≡ false
HasFormJob rows (FormJob.Build building) = IsBuilding rows building

-- messages are read, and not lines, of which only a report can be written
abbrev pub IsByMessage : List Row → FileJob → Type 0
IsByMessage rows job = IfSome (report_of job) (λ report. is_set (codes "lines") rows ≡ false)

abbrev pub HasWork : List Row → Work → Type 0
HasWork rows (Work.Print job json with_filename messages inputs) =
    IsByMessage rows job × (json ≡ is_set (codes "json") rows) × (with_filename ≡ is_set (codes "with-filename") rows) × AreMessages rows messages × AreInputs rows inputs
HasWork rows (Work.Dump elements with_filename inputs) = AreElements rows elements × (with_filename ≡ is_set (codes "with-filename") rows) × AreInputs rows inputs
HasWork rows (Work.Write job messages input output) = HasFormJob rows job × AreMessages rows messages × AreInAndOut rows input.now output
HasWork rows (Work.Collect job messages inputs output) = HasFormJob rows job × AreMessages rows messages × AreInputs rows inputs × HasOutput rows output
HasWork rows (Work.Lines profile input results) = NamesProfile rows profile × HasLines rows × HasResults rows input.now results

abbrev pub HasWords : List Row → Order → Type 0
HasWords rows (Order.Each work) = HasWork rows work
HasWords rows (Order.Compare reading first second) = IsReading rows reading × HasPair rows first.now second.now × (first.now ≡ codes "-" → second.now ≢ codes "-")

-- what was found for a command is the order's command, and its words are those of the order's parts
pub record IsOrderOf (found : Option (Text × List Row)) (order : Order) : Type 0 where
  pub rows : List Row
  pub command : found ≡ Some (verb_name (verb order), rows)
  pub words : HasWords rows order
