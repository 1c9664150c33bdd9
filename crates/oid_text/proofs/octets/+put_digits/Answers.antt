use Rattle.std.proofs.Common.{arith}
use Rattle.oid_text.proofs.SevenBits.{digits_more}
use Rattle.oid_text.proofs.octets.+put_digits.Goals as goal

pub returns-in_ok-push : goal.returns-in_ok-push
returns-in_ok-push t c =
    digits_more c.args.number c.args.octets.now.items c.put_digits.new.octets.items c.push.new.self.items (omega arith) c.in_ok-put_digits.ensures c.in_ok-push.ensures.items
