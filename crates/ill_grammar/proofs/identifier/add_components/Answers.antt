use Rattle.ill_grammar.specs.Marks.{octets_in}
use Rattle.ill_grammar.proofs.Identifiers.{exact_next, first_text, last_text, next_text}
use Rattle.ill_grammar.proofs.identifier.add_components.Goals as goal

pub numbers-init : goal.numbers-init
numbers-init c =
    let octets = octets_in c.args.octets.now in
    let rest = octets_in c.in-Some.rest.now in
    let next = exact_next octets rest _ c.in-Some.ensures.number c.requires in
    record { short = next.1; text = first_text octets rest _ _ _ _ _ next.0 c.min-root.ensures c.in_ok-add_number.ensures c.in_ok-add_dotted.ensures }

pub numbers-preserved : goal.numbers-preserved
numbers-preserved c =
    let left = octets_in c.numbers.left.now in
    let rest = octets_in c.in-Some-next_number.rest.now in
    let next = exact_next left rest _ c.in-Some-next_number.ensures.number c.numbers.invariant.short in
    record { short = next.1; text = next_text left rest _ _ _ _ next.0 c.in_ok-add_dotted-2.ensures c.numbers.invariant.text }

pub returns : goal.returns
returns c = last_text (octets_in c.numbers.left.now) _ _ c.in_default-next_number.ensures.number c.numbers.invariant.text
