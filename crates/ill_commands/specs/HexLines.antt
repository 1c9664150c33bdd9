-- The result of a line that is a message in hexadecimal.
use Rattle.std.specs.Prelude.{◌≡◌, ◌⊎◌, ◌++◌, ℕ, Bool, true, false, List, codes, length, Result, Ok, Err, if◌then◌else◌}
use Rattle.hex.specs.Hex.{encode_lower}
use Rattle.sha2.specs.Sha256.{sha256}
use Rattle.ber_leaf.specs.Profile.{Profile}
use Rattle.ill_schema.specs.Apdu.{Apdu, SpellsApdu, normal_form_in}
use Rattle.ill_schema.specs.Profiles.{profile_of}
use Rattle.ill_tables.specs.declared.profile.Profile.{Profile as Named}
use Rattle.ill_refusals.specs.Fault.{Fault}
use Rattle.ill_read.specs.Answers.{RefusesWholeIn}
use Rattle.ill_normal.specs.Messages.{Spelling, is_normal, spelling}
use Rattle.ill_inputs.specs.Hexadecimal.{hex_octets}
use Rattle.ill_inputs.specs.declared.run_fault.RunFault.{RunFault}
use Rattle.ill_tables.specs.Names.{name_or_none}
use Rattle.ill_schema.specs.Names.{apdu_name_in}
use Rattle.ill_normal.specs.CheckWords.{check_words}
use Rattle.ill_commands.specs.Words.{hex_words, refusal_words}
use Rattle.ill_commands.specs.declared.lines.answer.LineVerdict.{LineVerdict}
use Rattle.ill_commands.specs.declared.lines.job.LineJob.{LineJob}
use Rattle.ill_commands.specs.declared.lines.job.LineOptions.{LineOptions}

-- the work of a job in a profile
abbrev pub line_options : Named → LineJob → LineOptions
line_options profile job = record { profile = profile; job = job }

-- what is said of a message of the profile
abbrev pub message_words : Profile → LineJob → Spelling → List ℕ
message_words q LineJob.Check m = check_words (name_or_none (apdu_name_in q m.apdu.number)) (length m.octets) (is_normal q m) (length (normal_form_in q m.apdu))
message_words q LineJob.Digest m = encode_lower (sha256 (normal_form_in q m.apdu))
message_words q LineJob.Canonicalise m = encode_lower (normal_form_in q m.apdu)

-- what `Check` is asked for, and no other job
abbrev pub is_good_message : Profile → LineJob → Spelling → Bool
is_good_message q LineJob.Check m = is_normal q m
is_good_message q _ m = true

-- what is said of a message, and whether it is good
pub record IsSaid (work : LineOptions) (m : Spelling) (result : List ℕ) (is_good : Bool) : Type 0 where
  pub words : result ≡ message_words (profile_of work.profile) work.job m
  pub good : is_good ≡ is_good_message (profile_of work.profile) work.job m

-- octets that are one message of the profile have its words, and others those of their one refusal
abbrev pub IsResultOf : LineOptions → List ℕ → List ℕ → Bool → Type 0
IsResultOf work octets result is_good =
    ((a : Apdu) × SpellsApdu (profile_of work.profile) a octets × IsSaid work (spelling a octets) result is_good)
    ⊎ ((f : Fault) × RefusesWholeIn (profile_of work.profile) octets f × (result ≡ refusal_words f) × (is_good ≡ false))

-- the result of a line, by what its text stands for
abbrev pub IsResult : LineOptions → Result (List ℕ) RunFault → List ℕ → Bool → Type 0
IsResult work (Ok octets) result is_good = IsResultOf work octets result is_good
IsResult work (Err fault) result is_good = (result ≡ hex_words fault) × (is_good ≡ false)

-- a line with it, after which the next one is read
abbrev pub HexAnswers : LineOptions → List ℕ → List ℕ → LineVerdict → Type 0
HexAnswers work text result verdict =
    (words : List ℕ) × (is_good : Bool) × IsResult work (hex_octets text) words is_good
    × (result ≡ words ++ codes "\n") × (verdict ≡ (if is_good then LineVerdict.Good else LineVerdict.NotGood))
