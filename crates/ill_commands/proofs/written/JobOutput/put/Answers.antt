use Rattle.std.proofs.Common.{sym, subst}
use Rattle.ill_commands.specs.code.Writing.{IsShown, IsWritten}
use Rattle.ill_commands.proofs.written.JobOutput.put.Goals as goal

pub returns-in-Shown-clause-some : goal.returns-in-Shown-clause-some
returns-in-Shown-clause-some g c octets h =
    let is = subst (λ w. IsWritten w octets) c.in-Shown.is h in
    c.put_shown.ensures.some octets (subst (λ l. IsShown l c.in-Shown.text octets) (sym c.deref-in-Shown.ensures.value) is)

pub returns-in-Shown-clause-breaks : goal.returns-in-Shown-clause-breaks
returns-in-Shown-clause-breaks g c octets h =
    let is = subst (λ w. IsWritten w octets) c.in-Shown.is h in
    c.put_shown.ensures.breaks octets (subst (λ l. IsShown l c.in-Shown.text octets) (sym c.deref-in-Shown.ensures.value) is)
