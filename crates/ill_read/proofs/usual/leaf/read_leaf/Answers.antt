use Rattle.std.proofs.Common.{◌≡◌, ◌+◌, ◌-◌, ◌≤◌, subst, arith}
use Rattle.std.specs.List.{between}
use Rattle.ber_tree.specs.Length.{IsLength}
use Rattle.ill_read.proofs.UsualReads.{leaf_step}
use Rattle.ill_read.proofs.usual.leaf.read_leaf.Goals as goal

pub returns-clause-read : goal.returns-clause-read
returns-clause-read c n headed =
    let octets = c.args.input.octets.now in
    let size = c.in_ok-size.field-0.size in
    let contents = c.in_ok-size.field-0.contents in
    let leaf = c.in_ok-written.ensures.put in
    let inside : contents + size ≤ c.args.input.bound = omega (arith, c.if-size-input.false, c.in_ok-size.ensures.within) in
    let few : size ≤ 1_048_576 = omega (arith, inside, c.args.input.few) in
    let width : size ≡ contents + size - contents = omega arith in (
      inside,
      λ p k deep.
          leaf_step p octets c.args.out.now c.put_leaf.new.out c.args.header n leaf.0 k contents (contents + size) c.in_ok-written.written headed.0 headed.1
          (c.requires.within.1.0, omega (arith, c.in_ok-size.ensures.within), omega arith, omega (arith, inside, c.args.input.within)) (omega (arith, deep)) leaf.1
          (subst (λ m. IsLength m (between c.args.header.length.taken contents octets)) width (c.in_ok-size.ensures.is few)) leaf.2,
    )
