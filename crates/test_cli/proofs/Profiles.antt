-- The profile of words that are written out.
use Rattle.std.proofs.Common.{◌≡◌, ◌∙◌, List, [], ◌∷◌, Option, Some, codes, option_and_then, refl, sym, ap}
use Rattle.clap.specs.Words.{Row, Text, fault_of, first_of, subcommand_of}
use Rattle.clap.specs.declared.error.kind.ErrorKind.TheVariants.{ArgumentConflict, InvalidValue}
use Rattle.clap.proofs.OnLiterals.{clap_on_literals}
use Rattle.ill_tables.specs.declared.profile.Profile.{Profile}
use Rattle.ill_args.specs.CommandLine.{program}
use Rattle.ill_args.specs.CommandLine.{profile_name}
use Rattle.ill_args.specs.Orders.{IsOrderOf}
use Rattle.ill_args.specs.declared.orders.Order.{Order}
use Rattle.test_cli.specs.Orders.{profile_of}
use Rattle.test_cli.proofs.OneOrder.{has_profile}

-- the value of `--profile` for the command that was found
abbrev pub named_in : Option (Text × List Row) → Option Text
named_in = option_and_then (λ (p : Text × List Row). first_of (codes "profile") p.1)

pub found_profile : (found : Option (Text × List Row)) (order : Order) (profile : Profile) → IsOrderOf found order → named_in found ≡ Some (profile_name profile) → profile_of order ≡ profile
found_profile found order profile h named = has_profile h.rows order profile h.words (sym (ap named_in h.command) ∙ named)

pub no_name : named_in (subcommand_of program (codes "illcanon" ∷ codes "check" ∷ codes "A" ∷ [])) ≡ Some (codes "2")
unfolding clap_on_literals
no_name = refl

pub module_name : named_in (subcommand_of program (codes "illcanon" ∷ codes "same" ∷ codes "--profile" ∷ codes "module" ∷ codes "A" ∷ codes "B" ∷ [])) ≡ Some (codes "module")
unfolding clap_on_literals
module_name = refl

pub other_name : fault_of program (codes "illcanon" ∷ codes "dump" ∷ codes "--profile=3" ∷ codes "A" ∷ []) ≡ InvalidValue ∷ []
unfolding clap_on_literals
other_name = refl

pub two_names : fault_of program (codes "illcanon" ∷ codes "show" ∷ codes "--profile=2" ∷ codes "--profile=2" ∷ codes "A" ∷ []) ≡ ArgumentConflict ∷ []
unfolding clap_on_literals
two_names = refl
