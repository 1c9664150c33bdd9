use Rattle.std.proofs.Common.{arith}
use Rattle.std.proofs.lemmas.Bool.Decides.{nat_tests}
use Rattle.ill_grammar.proofs.SpotsEnd.{may_end_there}
use Rattle.ill_grammar.proofs.spot.Spot.is_complete.Goals as goal

pub returns-clause-complete : goal.returns-clause-complete
returns-clause-complete c h = (may_end_there c.args.self.offset (grind (arith, nat_tests, h))).0

pub returns-clause-in_sequence : goal.returns-clause-in_sequence
returns-clause-in_sequence c h = (may_end_there c.args.self.offset (grind (arith, nat_tests, h))).1
