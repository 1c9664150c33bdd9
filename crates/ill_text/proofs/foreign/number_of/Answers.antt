use Rattle.std.proofs.Common.{◌≡◌, ◌∙◌, sym, arith, drop}
use Rattle.std.specs.Int.Digits.{number_from_digits_after}
use Rattle.std.proofs.lemmas.List.{at_drop_all}
use Rattle.ill_grammar.specs.Marks.{octets_in}
use Rattle.ill_text.specs.code.Sending.{counted}
use Rattle.ill_text.proofs.ForeignTrees.{number_step}
use Rattle.ill_text.proofs.foreign.number_of.Goals as goal

pub loop-mark-preserved : goal.loop-mark-preserved
loop-mark-preserved c = record {
  number = c.loop-mark.invariant.number ∙ number_step c.args.marks.now c.loop-mark.mark-index _ c.loop-mark.number c.extended-number.result c.loop-mark-test.true c.extended-number.ensures;
  held = omega (arith, c.extended-number.ensures);
}

pub returns : goal.returns
returns c =
    let last : counted (number_from_digits_after 256 c.loop-mark.number (octets_in (drop c.loop-mark.mark-index c.args.marks.now))) ≡ counted c.loop-mark.number
    = at_drop_all (λ ms. counted (number_from_digits_after 256 c.loop-mark.number (octets_in ms))) c.args.marks.now c.loop-mark.mark-index (omega (arith, c.loop-mark-test.false)) in
    let n : c.loop-mark.number ≡ counted c.loop-mark.number = omega (arith, c.loop-mark.invariant.held) in
    n ∙ sym (c.loop-mark.invariant.number ∙ last)
