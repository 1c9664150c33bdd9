use Rattle.std.proofs.Common.{◌≡◌, ◌∙◌, ap, sym, arith, length, length-append, map, take, drop, lit≤}
use Rattle.std.specs.Int.Digits.{digits_of, number_from_digits}
use Rattle.std.proofs.lemmas.Int.Digits.{number_digits_of}
use Rattle.std.proofs.lemmas.List.{take_at, drop_at}
use Rattle.ill_grammar.specs.declared.outline.Mark.TheVariants as mark
use Rattle.ill_grammar.specs.Marks.{octets_in}
use Rattle.ill_text.specs.code.Sending.{counted}
use Rattle.ill_grammar.proofs.MarkedValues.{marks_length, octets_back}
use Rattle.ill_text.proofs.ForeignTrees.{long_length}
use Rattle.ill_text.proofs.foreign.split_length.Goals as goal

pub returns-clause-exact : goal.returns-clause-exact
returns-clause-exact c n rest small e =
    let ds = digits_of 256 n in
    let front = map mark.Octet ds in
    let l = long_length n rest c.in-Some.first.now c.in-Some.rest.now c.octet_in-octet.result (sym e ∙ c.in-Some.ensures.cases.0) c.octet_in-octet.ensures c.if-octet-lt128.false in
    let k : c.min.result ≡ length front = omega (arith, c.min.ensures, c.from-2.ensures, l.0, ap length l.1, length-append front (map mark.Octet rest), marks_length ds) in
    let digits : c.split_at.result.0.now ≡ front = c.split_at.ensures.front ∙ ap (take c.min.result) l.1 ∙ take_at front (map mark.Octet rest) c.min.result (sym k) in
    let after = c.split_at.ensures.back ∙ ap (drop c.min.result) l.1 ∙ drop_at front (map mark.Octet rest) c.min.result (sym k) in
    let number = c.number_of.ensures ∙ ap (λ ms. counted (number_from_digits 256 (octets_in ms))) digits ∙ ap (λ o. counted (number_from_digits 256 o)) (octets_back ds) ∙ ap counted (number_digits_of 256 n (lit≤ tt)) in
    (omega (arith, number, small), after)
