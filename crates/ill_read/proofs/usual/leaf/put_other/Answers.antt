use Rattle.std.proofs.Common.{length}
use Rattle.ill_read.proofs.UsualLeaves.{leaf_put, no_default}
use Rattle.ill_read.proofs.usual.leaf.put_other.Goals as goal

pub returns-clause-put : goal.returns-clause-put
returns-clause-put c =
    let leaf = c.args.leaf in
    let octets = c.args.content.now in
    leaf_put leaf c.args.header octets c.args.out.now c.put_content.new.out (length octets) c.in_ok-end.end c.requires.order c.in_ok-end.ensures.right (no_default c.args.header.element.default leaf octets c.if-header-ne-NO_DEFAULT.false) c.in_ok-end.ensures.put
