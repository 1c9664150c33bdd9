use Rattle.std.proofs.Common.{◌∙◌, ◌+◌, ◌-◌, ◌∷◌, [], false, ap, subst, arith}
use Rattle.ill_grammar.specs.code.Spots.{IsOfKind, is_constructed, spot_next}
use Rattle.ill_read.proofs.UsualReads.{marks_at, open_step}
use Rattle.ill_read.proofs.UsualWrites.{one_octet}
use Rattle.ill_read.proofs.usual.string.read_indefinite.Goals as goal

pub returns-clause-read : goal.returns-clause-read
returns-clause-read c n headed =
    let octets = c.args.input.octets.now in
    let h = c.args.header in
    let at = h.length.taken + 1 in
    let start = h.length.written + 1 in
    let reach = c.in_ok-reach.reach in
    let read = c.in_ok-reach.ensures.read in
    let kind = subst (λ k. IsOfKind k (spot_next h.element.first) headed.0.element) c.requires.kind headed.0.kind in
    let mark = one_octet octets h.length.taken (omega (arith, c.requires.within, c.args.input.within)) ∙ ap (λ m. m ∷ []) c.requires.mark in (
      read.ends.0,
      λ p k deep.
          open_step p octets c.args.out.now c.read_string.new.out c.close.new.out h n false k at reach.taken (reach.taken + 2) start reach.written c.in_ok-written.written headed.0 headed.1
          (c.requires.within.1.0, omega arith, read.taken.0, omega arith) (c.requires.within.1.1, omega arith, read.put.forward.0) deep (ap is_constructed c.requires.kind) read.put
          c.in_ok-written.ensures.put (c.in_ok-reach.ensures.all p headed.0.element (k - 1) kind (omega (arith, deep))) mark
          (marks_at false octets reach.taken c.args.input.bound read.ends (reach.taken + 2) (omega arith)),
    )
