use Rattle.std.proofs.Common.{take}
use Rattle.ill_refusals.proofs.DueOfProfile.{due_shallow, foreign_shallow}
use Rattle.ill_refusals.proofs.OpenCounts.{few_open}
use Rattle.ill_refusals.proofs.laws.few_elements_are_open.Goals as goal

pub returns-clause-all : goal.returns-clause-all
returns-clause-all c = few_open

pub returns-clause-outside : goal.returns-clause-outside
returns-clause-outside c = λ p s k path tag d is_due. due_shallow p path (take k s) tag d is_due.1

pub returns-clause-foreign : goal.returns-clause-foreign
returns-clause-foreign c = λ p s k n o path is_due. foreign_shallow p o path (take k s) n is_due.1
