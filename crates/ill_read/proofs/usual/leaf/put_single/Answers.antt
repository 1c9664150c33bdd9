use Rattle.std.proofs.Common.{◌+◌, refl, arith}
use Rattle.std.specs.Prelude.{◌≡◌}
use Rattle.ill_read.proofs.UsualWrites.{puts_as, puts_then}
use Rattle.ill_read.proofs.usual.leaf.put_single.Goals as goal

pub returns : goal.returns
returns c =
    let to = c.args.to in
    let next : to + 1 + 1 ≡ to + 2 = omega arith in
    record {
      few = refl;
      put = puts_as c.args.out.now c.put_octet-2.new.out to (to + 1 + 1) (to + 2) _ _
          (puts_then c.args.out.now c.put_octet.new.out c.put_octet-2.new.out to (to + 1) (to + 1 + 1) _ _ c.put_octet.ensures.put c.put_octet-2.ensures.put) next refl;
    }
