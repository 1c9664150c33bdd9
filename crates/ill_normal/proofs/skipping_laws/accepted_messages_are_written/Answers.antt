use Rattle.ill_normal.specs.Messages.{first}
use Rattle.ill_normal.proofs.OneWay.{good_written}
use Rattle.ill_normal.proofs.skipping_laws.accepted_messages_are_written.Goals as goal

pub returns : goal.returns
returns c = λ text same p items n octets h. good_written text same p first items n octets h
