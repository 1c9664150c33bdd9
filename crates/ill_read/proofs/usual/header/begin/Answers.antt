use Rattle.std.proofs.Common.{sym, subst, arith}
use Rattle.ill_grammar.specs.code.Spots.{IsUsualDue, spot_next}
use Rattle.ill_read.proofs.UsualWrites.{one_octet, two_octets}
use Rattle.ill_read.proofs.usual.header.begin.Goals as goal

pub returns-in-Some-clause-due : goal.returns-in-Some-clause-due
returns-in-Some-clause-due c =
    let octets = c.args.input.octets.now in
    subst (λ x. IsUsualDue x (spot_next c.args.spot) c.in-Some.element) (sym (one_octet octets c.args.at (omega (arith, c.args.input.within, c.requires)))) c.in-Some.ensures

pub returns-clause-due : goal.returns-clause-due
returns-clause-due c =
    let octets = c.args.input.octets.now in
    subst (λ x. IsUsualDue x (spot_next c.args.spot) c.in_ok-element.element) (sym (two_octets octets c.args.at (omega (arith, c.args.input.within, c.requires)))) c.in_ok-element.ensures
