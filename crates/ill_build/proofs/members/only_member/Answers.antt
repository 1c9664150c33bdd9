use Rattle.std.proofs.Common.{arith}
use Rattle.ill_build.proofs.FirstFault.{one_long}
use Rattle.ill_build.proofs.members.only_member.Goals as goal

pub returns-else-members-eq1-clause-none : goal.returns-else-members-eq1-clause-none
returns-else-members-eq1-clause-none c name inner e =
    let one = one_long c.args.members.now name inner e in
    absurd (grind arith)
