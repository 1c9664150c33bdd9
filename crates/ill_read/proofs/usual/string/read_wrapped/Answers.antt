use Rattle.std.proofs.Common.{◌≡◌, ◌∙◌, ◌+◌, ◌-◌, ◌≤◌, true, length, sym, ap, subst, arith}
use Rattle.std.specs.List.{between}
use Rattle.std.proofs.lemmas.List.Edits.{length-between}
use Rattle.ber_tree.specs.Length.{IsLength}
use Rattle.ill_grammar.specs.code.Spots.{IsOfKind, is_constructed, spot_next}
use Rattle.ill_read.specs.code.Usual.{HasAll}
use Rattle.ill_read.proofs.UsualReads.{marks_at, open_step}
use Rattle.ill_read.proofs.usual.string.read_wrapped.Goals as goal

pub returns-clause-read : goal.returns-clause-read
returns-clause-read c n headed =
    let octets = c.args.input.octets.now in
    let h = c.args.header in
    let size = c.in_ok-size.field-0.size in
    let contents = c.in_ok-size.field-0.contents in
    let within = c.in_ok-size.ensures.within in
    let to = contents + size in
    let start = h.length.written + 1 in
    let inside : to ≤ c.args.input.bound = omega (arith, c.if-size-input.false, within) in
    let few : size ≤ 1_048_576 = omega (arith, inside, c.args.input.few) in
    let reach = c.in_ok-reach.reach in
    let up = c.up_to in
    let read = c.in_ok-reach.ensures.read in
    let ends : reach.taken ≡ to = read.ends ∙ up.ensures.bound in
    let kind = subst (λ k. IsOfKind k (spot_next h.element.first) headed.0.element) c.requires.kind headed.0.kind in
    let sized : length (between contents reach.taken octets) ≡ size = length-between octets contents reach.taken (omega (arith, ends, inside, c.args.input.within)) ∙ (let m : reach.taken - contents ≡ size = omega (arith, ends) in m) in (
      inside,
      λ p k deep.
          open_step p octets c.args.out.now c.read_string.new.out c.close.new.out h n true k contents reach.taken to start reach.written c.in_ok-written.written headed.0 headed.1
          (c.requires.within.1.0, omega (arith, within), read.taken.0, omega (arith, ends)) (c.requires.within.1.1, omega arith, read.put.forward.0) deep (ap is_constructed c.requires.kind) read.put
          c.in_ok-written.ensures.put
          (subst (λ x. HasAll p headed.0.element (k - 1) (between contents reach.taken x) (between start reach.written c.read_string.new.out)) up.ensures.octets (c.in_ok-reach.ensures.all p headed.0.element (k - 1) kind (omega (arith, deep))))
          (subst (λ m. IsLength m (between h.length.taken contents octets)) (sym sized) (c.in_ok-size.ensures.is few)) (marks_at true octets reach.taken to ends to (omega (arith, ends))),
    )
