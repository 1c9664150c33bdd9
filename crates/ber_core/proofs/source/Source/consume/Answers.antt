use Rattle.std.proofs.Common.{rules, ◌≡◌, length, refl, arith}
use Rattle.ber_core.specs.Shown.{DropsFewer}
use Rattle.ber_core.proofs.Shown.{drops_kept, drops_more}
use Rattle.ber_core.proofs.source.Source.consume.Goals as goal

pub returns-in_err-take-clause-part : goal.returns-in_err-take-clause-part
returns-in_err-take-clause-part g c =
    let kept = drops_kept (g.Self.Source.left c.args.self.now) (g.Self.Source.left c.taken.self) (g.Self.Source.left c.take.new.self) c.taken.counter c.taken.invariant.taken c.in_err-take.ensures.octets in
    let fewer : DropsFewer (g.Self.Source.left c.args.self.now) (g.Self.Source.left c.take.new.self) c.args.count = (c.taken.counter, c.taken-test.true, kept) in
    search (fewer, rules)

pub taken-preserved : goal.taken-preserved
taken-preserved g c =
    let one : length c.take.new.buffer ≡ 1 = search rules in
    record {
      taken = drops_more (g.Self.Source.left c.args.self.now) (g.Self.Source.left c.taken.self) (g.Self.Source.left c.take.new.self) c.take.new.buffer c.taken.counter c.in_ok-take.field-0 c.args.count
          c.taken.invariant.taken c.requires.left c.taken-test.true (omega (arith, c.in_ok-take.ensures.count, one)) one c.in_ok-take.ensures.octets.0 c.in_ok-take.ensures.octets.1;
      stays = λ h. c.in_ok-take.ensures.stays (c.taken.invariant.stays h);
    }
