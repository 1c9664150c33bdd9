-- The command line that the program has, as clap's contracts see it.
use Rattle.std.specs.Prelude.{true, List, [], ◌∷◌, ◌++◌, codes, Some}
use Rattle.std.specs.Borrow.{Bor}
use Rattle.clap.specs.Walk.{Rule, Text}
use Rattle.clap.specs.Simple.{App, new_app, new_rule, with_rule, with_subcommand}
use Rattle.clap.specs.declared.builder.action.ArgAction.TheVariants.{Append, SetTrue}
use Rattle.clap.specs.declared.builder.value_parser.ValueParser.TheVariants.{Names, Unsigned}
use Rattle.ill_tables.specs.declared.profile.Profile.{Profile}
use Rattle.ill_args.specs.declared.orders.FileJob.{FileJob}
use Rattle.ill_args.specs.declared.orders.FormVerb.{FormVerb}
use Rattle.ill_args.specs.declared.orders.Report.{Report}
use Rattle.ill_args.specs.declared.orders.Verb.{Verb}

-- the word for a command
abbrev pub verb_name : Verb → Text
verb_name (Verb.Print FileJob.Show) = codes "show"
verb_name (Verb.Print (FileJob.Report Report.Check)) = codes "check"
verb_name (Verb.Print (FileJob.Report Report.Digest)) = codes "digest"
verb_name Verb.Dump = codes "dump"
verb_name Verb.Same = codes "same"
verb_name (Verb.Write FormVerb.Canonicalise) = codes "canonicalise"
verb_name (Verb.Write FormVerb.Build) = codes "build"

-- the word for a profile
abbrev pub profile_name : Profile → Text
profile_name Profile.Two = codes "2"
profile_name Profile.Module = codes "module"

-- the flag `--NAME`
abbrev pub flag_rule : Text → Rule
flag_rule name = record (new_rule name) { long = Some name; action = Some SetTrue }

-- a file that must be named
abbrev pub file_rule : Text → Rule
file_rule id = record (new_rule id) { value_names = 1; required = true }

-- the option `--NAME VALUE`
abbrev pub value_rule : Text → Rule
value_rule name = record (new_rule name) { long = Some name; value_names = 1 }

-- the option `--NAME N`, where N is a number from 1 to 1,000,000
abbrev pub number_rule : Text → Rule
number_rule name = record (value_rule name) { parser = Some (Unsigned 1 1_000_000) }

-- the flag `-H`, `--with-filename`
abbrev pub filename_rule : Rule
filename_rule = record (flag_rule (codes "with-filename")) { short = Some 72 }

-- any number of files
abbrev pub files_rule : Rule
files_rule = record (new_rule (codes "file")) { value_names = 1; action = Some Append }

-- the option `-o OUT`, `--output OUT`
abbrev pub output_rule : Rule
output_rule = record (value_rule (codes "output")) { short = Some 111 }

-- names of profiles, with the places where they are in memory
abbrev pub ProfileNames : Type 0
ProfileNames = Bor (List (Bor Text))

-- the option `--profile NAME`, where NAME is one of these names; without it, profile 2
abbrev pub profile_rule : ProfileNames → Rule
profile_rule names = record (value_rule (codes "profile")) {
  defaults = profile_name Profile.Two ∷ [];
  parser = Some (Names names);
}

abbrev pub bare_program : App
bare_program = let a = new_app (codes "illcanon") in
    record a { top = record a.top { has_version = true; subcommand_required = true; arg_required_else_help = true } }

-- a topic of `help`: a command that has only a help text
abbrev pub topic : Text → App
topic name = let a = new_app name in
    record a { top = record a.top { subcommand_required = true; arg_required_else_help = true } }

-- `--files-from LIST`, and files
abbrev pub inputs_rules : List Rule
inputs_rules = value_rule (codes "files-from") ∷ files_rule ∷ []

-- what is done with refused messages, where they can be written to a file
abbrev pub refusal_rules : List Rule
refusal_rules = flag_rule (codes "keep-going") ∷ value_rule (codes "refused") ∷ number_rule (codes "max-refused") ∷ flag_rule (codes "summary") ∷ []

-- what the commands have besides `--hex` and `--profile`, in turn
abbrev pub show_rules : List Rule
show_rules = inputs_rules ++ filename_rule ∷ refusal_rules ++ flag_rule (codes "json") ∷ []

abbrev pub report_rules : List Rule
report_rules = refusal_rules ++ flag_rule (codes "lines") ∷ inputs_rules ++ filename_rule ∷ flag_rule (codes "json") ∷ []

abbrev pub dump_rules : List Rule
dump_rules =
    inputs_rules ++ filename_rule ∷ flag_rule (codes "keep-going") ∷ number_rule (codes "max-refused") ∷ number_rule (codes "message") ∷ flag_rule (codes "html") ∷ []

abbrev pub same_rules : List Rule
same_rules = file_rule (codes "first") ∷ file_rule (codes "second") ∷ []

abbrev pub canonicalise_rules : List Rule
canonicalise_rules = refusal_rules ++ flag_rule (codes "lines") ∷ flag_rule (codes "whole") ∷ output_rule ∷ inputs_rules

abbrev pub build_rules : List Rule
build_rules =
    refusal_rules ++ flag_rule (codes "write-defaults") ∷ flag_rule (codes "lines") ∷ flag_rule (codes "json") ∷ flag_rule (codes "whole") ∷ output_rule ∷ inputs_rules ++ filename_rule ∷ []

abbrev pub rules_of : Verb → List Rule
rules_of (Verb.Print FileJob.Show) = show_rules
rules_of (Verb.Print (FileJob.Report report)) = report_rules
rules_of Verb.Dump = dump_rules
rules_of Verb.Same = same_rules
rules_of (Verb.Write FormVerb.Canonicalise) = canonicalise_rules
rules_of (Verb.Write FormVerb.Build) = build_rules

-- all commands
abbrev pub all_verbs : List Verb
all_verbs =
    Verb.Print FileJob.Show ∷ Verb.Print (FileJob.Report Report.Check) ∷ Verb.Print (FileJob.Report Report.Digest) ∷ Verb.Dump ∷ Verb.Same ∷ Verb.Write FormVerb.Canonicalise ∷ Verb.Write FormVerb.Build ∷ []

-- a command to which these arguments are added
abbrev pub with_rules : App → List Rule → App
with_rules a [] = a
with_rules a (r ∷ rs) = with_rules (with_rule a r) rs

module _ (names : ProfileNames) where
  -- a command that reads hexadecimal text, too, and any of these profiles
  abbrev pub with_hex : Text → App
  with_hex name = with_rule (with_rule (new_app name) (flag_rule (codes "hex"))) (profile_rule names)

  abbrev pub command_for : Verb → App
  command_for verb = with_rules (with_hex (verb_name verb)) (rules_of verb)

  -- a program with these commands, in turn
  abbrev pub with_commands : App → List Verb → App
  with_commands a [] = a
  with_commands a (verb ∷ verbs) = with_commands (with_subcommand a (command_for verb).top) verbs

  -- the program with its commands, and two topics
  abbrev pub program_of : App
  program_of = with_subcommand (with_subcommand (with_commands bare_program all_verbs) (topic (codes "causes")).top) (topic (codes "profile")).top

-- a reference, where the place in memory makes no difference
abbrev pub reference : {X : Type 0} → X → Bor X
reference x = record { ref_ptr = (0, 0); now = x }

-- the program, where each profile can be named
abbrev pub program : App
program = program_of (reference (reference (profile_name Profile.Two) ∷ reference (profile_name Profile.Module) ∷ []))
