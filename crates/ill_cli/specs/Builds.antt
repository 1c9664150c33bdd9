-- The result of a line of JSON that is built.
use Rattle.std.specs.Prelude.{◌≡◌, ◌⊎◌, ◌++◌, ℕ, Bool, true, false, List, [], codes, Option}
use Rattle.hex.specs.Hex.{encode_lower}
use Rattle.ill_schema.specs.Apdu.{Apdu, SpellsApdu, normal_form_in}
use Rattle.ill_schema.specs.Names.{apdu_name_in}
use Rattle.ill_schema.specs.Profiles.{profile_of}
use Rattle.ill_tables.specs.Names.{name_or_none}
use Rattle.ill_build.specs.Causes.{cause_name}
use Rattle.ill_build.specs.Line.{IsFaultyLine, SaysApdu}
use Rattle.ill_build.specs.Path.{Step}
use Rattle.ill_build.specs.declared.cause.BuildCause.{BuildCause}
use Rattle.ill_json.specs.Built.{built_line_of, unbuilt_line_of}
use Rattle.ill_commands.specs.declared.lines.answer.LineVerdict.{LineVerdict}
use Rattle.ill_cli.specs.declared.build.BuildForm.{BuildForm}
use Rattle.ill_cli.specs.declared.build.BuildForm.TheVariants.{Octets, Digits, Lines, Json}
use Rattle.ill_cli.specs.declared.build.BuildOptions.{BuildOptions}

-- of a message with these octets: the octets, a line of their digits, or a line of JSON with the number of the line, and its file where it is named
abbrev pub IsFormed : BuildForm → List ℕ → List ℕ → List ℕ → Type 0
IsFormed Octets apdu octets result = result ≡ octets
IsFormed Json apdu octets result = (file : Option (List ℕ)) × (line : ℕ) × (result ≡ built_line_of file line apdu octets)
IsFormed _ apdu octets result = result ≡ encode_lower octets ++ codes "\n"

abbrev pub IsBuiltResult : BuildOptions → Apdu → List ℕ → List ℕ → Type 0
IsBuiltResult work a octets result = IsFormed work.form (name_or_none (apdu_name_in (profile_of work.profile) a.number)) octets result

-- of a line that is refused for this cause: nothing, where it is reported; or a line of words, or of JSON
abbrev pub IsUnbuiltResult : BuildForm → BuildCause → List ℕ → Type 0
IsUnbuiltResult Octets cause result = result ≡ []
IsUnbuiltResult Digits cause result = result ≡ []
IsUnbuiltResult Lines cause result = (words : List ℕ) × (result ≡ words ++ codes "\n")
IsUnbuiltResult Json cause result =
    (file : Option (List ℕ)) × (line : ℕ) × (pointer : Option (List ℕ)) × (column : Option ℕ) × (result ≡ unbuilt_line_of file line (cause_name cause) pointer column)

-- the work ends with the first line that is refused, or goes on; it may end there, too, where so many are refused as were asked for
abbrev pub IsUnbuiltVerdict : Bool → LineVerdict → Type 0
IsUnbuiltVerdict false verdict = verdict ≡ LineVerdict.Last
IsUnbuiltVerdict true verdict = (verdict ≡ LineVerdict.NotGood) ⊎ (verdict ≡ LineVerdict.Last)

-- a line that says an APDU of the profile, of which a spelling is built: its normal form, but where defaults are written
pub record IsBuilt (work : BuildOptions) (line result : List ℕ) (verdict : LineVerdict) : Type 0 where
  pub apdu : Apdu
  pub octets : List ℕ
  pub says : SaysApdu (profile_of work.profile) line apdu
  pub spells : SpellsApdu (profile_of work.profile) apdu octets
  pub normal : work.writes_defaults ≡ false → octets ≡ normal_form_in (profile_of work.profile) apdu
  pub is_result : IsBuiltResult work apdu octets result
  pub good : verdict ≡ LineVerdict.Good

-- a line with a fault
pub record IsUnbuilt (work : BuildOptions) (line result : List ℕ) (verdict : LineVerdict) : Type 0 where
  pub cause : BuildCause
  pub path : List Step
  pub faulty : IsFaultyLine (profile_of work.profile) line cause path
  pub is_result : IsUnbuiltResult work.form cause result
  pub is_verdict : IsUnbuiltVerdict work.goes_on verdict

abbrev pub BuildAnswers : BuildOptions → List ℕ → List ℕ → LineVerdict → Type 0
BuildAnswers work line result verdict = IsBuilt work line result verdict ⊎ IsUnbuilt work line result verdict
