-- The command that was found in the words, and the faults of its words.
use Rattle.std.specs.Prelude.{◌≡◌, ◌⊎◌, true, false, List, [], ◌∷◌, map, codes, Option, Some, is_some}
use Rattle.clap.specs.Walk.{Row, Text, first_of}
use Rattle.ill_tables.specs.declared.profile.Profile.{Profile}
use Rattle.ill_args.specs.CommandLine.{profile_name, verb_name, ProfileNames}
use Rattle.ill_args.specs.Orders.{is_set, verb, verb_of_work, HasOne, HasTwo, HasWords, HasWork, NamesProfile}
use Rattle.ill_args.specs.Refused.{HasFault, IsOutOfMemory}
use Rattle.ill_args.specs.declared.fault.LineFault.{LineFault}
use Rattle.ill_args.specs.declared.fault.LineFault.TheVariants.{NotOneFile}
use Rattle.ill_args.specs.declared.orders.Order.{Order}
use Rattle.ill_args.specs.declared.orders.Verb.{Verb}
use Rattle.ill_args.specs.declared.orders.Work.{Work}

-- the two files of `same` are there
abbrev pub HasBoth : List Row → Type 0
HasBoth rows = (is_some (first_of (codes "first") rows) ≡ true) × (is_some (first_of (codes "second") rows) ≡ true)

-- the names are those of all profiles
abbrev pub AreAllNames : ProfileNames → Type 0
AreAllNames names = map (λ name. name.now) names.now ≡ profile_name Profile.Two ∷ profile_name Profile.Module ∷ []

-- a profile is named
abbrev pub HasProfile : List Row → Type 0
HasProfile rows = (profile : Profile) × NamesProfile rows profile

-- the name is that of a command
abbrev pub IsVerb : Text → Type 0
IsVerb name = (verb : Verb) × (name ≡ verb_name verb)

-- a command was found with a profile, and `same` with its two files
pub record IsCommand (found : Option (Text × List Row)) : Type 0 where
  pub name : Text
  pub rows : List Row
  pub is : found ≡ Some (name, rows)
  pub known : IsVerb name
  pub profile : HasProfile rows
  pub both : name ≡ codes "same" → HasBoth rows

-- the order of a command with these words
abbrev pub IsOrder : Verb → List Row → Order → Type 0
IsOrder of rows order = (verb order ≡ of) × HasWords rows order

-- the work of a command with these words
abbrev pub IsWork : Verb → List Row → Work → Type 0
IsWork of rows work = (verb_of_work work ≡ of) × HasWork rows work

-- a fault of the words of a command, or memory ran out
abbrev pub IsFault : Verb → List Row → LineFault → Type 0
IsFault of rows fault = IsOutOfMemory fault ⊎ HasFault of rows fault

-- lines are read, with no flag that excludes them
pub record ReadsLinesAlone (rows : List Row) : Type 0 where
  pub lines : is_set (codes "lines") rows ≡ true
  pub hex : is_set (codes "hex") rows ≡ false
  pub keep_going : is_set (codes "keep-going") rows ≡ false
  pub summary : is_set (codes "summary") rows ≡ false
  pub json : is_set (codes "json") rows ≡ false

-- OUT is this word
abbrev pub IsOutput : List Row → Text → Type 0
IsOutput rows word = (first_of (codes "output") rows ≡ Some word) ⊎ ((input : Text) × HasTwo rows input word)

-- there are no words of one file
abbrev pub IsNotOne : List Row → LineFault → Type 0
IsNotOne rows fault = (fault ≡ NotOneFile) × ((file : Text) → HasOne rows file → ⊥)
