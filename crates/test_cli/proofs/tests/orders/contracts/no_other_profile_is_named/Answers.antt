use Rattle.std.proofs.Common.{◌∙◌, ap, subst}
use Rattle.clap.specs.Words.{fault_of}
use Rattle.ill_args.specs.CommandLine.{program}
use Rattle.ill_args.specs.Refused.{IsRefusedBy}
use Rattle.test_cli.proofs.Profiles.{other_name}
use Rattle.test_cli.proofs.tests.orders.contracts.no_other_profile_is_named.Goals as goal

pub returns : goal.returns
returns c = subst (λ kinds. IsRefusedBy kinds c.order.result) (ap (fault_of program) c.requires ∙ other_name) c.order.ensures.faults
