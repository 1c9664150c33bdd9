use Rattle.std.proofs.Common.{◌∙◌, ap}
use Rattle.std.proofs.lemmas.Result.{IfOk-weaker}
use Rattle.clap.specs.Words.{subcommand_of}
use Rattle.ill_tables.specs.declared.profile.Profile.{Profile}
use Rattle.ill_args.specs.CommandLine.{program}
use Rattle.test_cli.proofs.Profiles.{found_profile, named_in, no_name}
use Rattle.test_cli.proofs.tests.orders.contracts.profile_two_needs_no_name.Goals as goal

pub returns : goal.returns
returns c = IfOk-weaker c.order.result _ _ (λ order h. found_profile _ order Profile.Two h (ap (λ words. named_in (subcommand_of program words)) c.requires ∙ no_name)) c.order.ensures.order
