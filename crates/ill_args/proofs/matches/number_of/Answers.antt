use Rattle.std.proofs.Common.{subst}
use Rattle.clap.specs.Words.{found_of}
use Rattle.clap.proofs.WalkLemmas.{one_text-rows}
use Rattle.ill_args.specs.Orders.{IsOptionNumber}
use Rattle.ill_args.proofs.Found.{number_is}
use Rattle.ill_args.proofs.matches.number_of.Goals as goal

pub returns : goal.returns
returns c =
    subst (λ o. IsOptionNumber o c.get_one.result) (one_text-rows (found_of c.args.words.now) c.args.name.now)
    (number_is _ c.get_one.result c.get_one.ensures.none c.get_one.ensures.value)
