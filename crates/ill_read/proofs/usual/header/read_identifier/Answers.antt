use Rattle.std.proofs.Common.{◌≡◌, ◌∙◌, ◌+◌, ◌-◌, ap, arith}
use Rattle.std.specs.List.{between}
use Rattle.ill_read.proofs.UsualReads.{identifier_copied}
use Rattle.ill_read.proofs.usual.header.read_identifier.Goals as goal

pub returns-clause-headed : goal.returns-clause-headed
returns-clause-headed c =
    let octets = c.args.input.octets.now in
    let from = c.args.from in
    let d = c.in_ok-begun.begun.length_at - from.taken in
    let back : from.taken + d ≡ c.in_ok-begun.begun.length_at = omega (arith, c.in_ok-begun.ensures.within) in (
      c.in_ok-begun.ensures.due,
      identifier_copied octets c.args.out.now c.copy_two.new.out from.taken from.written d (omega (arith, c.in_ok-begun.ensures.within)) c.copy_two.ensures ∙ ap (λ k. between from.taken k octets) back,
    )
