use Rattle.std.proofs.Common.{◌∙◌, ap, subst}
use Rattle.clap.specs.Words.{fault_of}
use Rattle.ill_args.specs.CommandLine.{program}
use Rattle.ill_args.specs.Refused.{IsRefusedBy}
use Rattle.test_cli.proofs.Profiles.{two_names}
use Rattle.test_cli.proofs.tests.orders.contracts.a_profile_is_named_once.Goals as goal

pub returns : goal.returns
returns c = subst (λ kinds. IsRefusedBy kinds c.order.result) (ap (fault_of program) c.requires ∙ two_names) c.order.ensures.faults
