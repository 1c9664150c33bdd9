use Rattle.std.proofs.Common.{ℕ, ◌<◌, ◌^◌, sym, ap, ◌∙◌, arith, append-nil, length-set, ◌++◌}
use Rattle.std.proofs.lemmas.List.{drop_all}
use Rattle.std.proofs.lemmas.Int.Digits.{length-digits_of-le}
use Rattle.std.specs.Int.Digits.{digits_of}
use Rattle.der_buffer.proofs.LongLengths.{one_digit, one_fewer, one_octet}
use Rattle.der_buffer.proofs.der_buffer.put_length.Goals as goal

pub returns-then-size-lt128-clause-octets : goal.returns-then-size-lt128-clause-octets
returns-then-size-lt128-clause-octets c = one_octet c.args.room.now c.args.size c.told-room c.if-size-lt128.true

pub digits-init : goal.digits-init
digits-init c =
    let size : c.args.size < 256 ^ 8 = c.ranges.size.fits in
    record {
      digits = sym (ap (λ z. digits_of 256 c.args.size ++ z) (drop_all 9 c.args.room.now (omega (arith, c.told-room))) ∙ append-nil (digits_of 256 c.args.size));
      left = omega (arith, length-digits_of-le 256 8 c.args.size (omega arith) size);
      within = omega arith;
      room = c.told-room;
    }

pub digits-preserved : goal.digits-preserved
digits-preserved c =
    let some : 0 < c.digits.at = omega (arith, c.digits.invariant.left) in
    record {
      digits = one_digit c.digits.room c.args.size c.digits.rest c.digits.at c.digits.invariant.digits c.digits-test.true some (omega (arith, c.digits.invariant.within, c.digits.invariant.room));
      left = one_fewer c.digits.rest c.digits.at c.digits-test.true c.digits.invariant.left;
      within = omega (arith, c.digits.invariant.within);
      room = omega (arith, c.digits.invariant.room, length-set {A = ℕ});
    }
