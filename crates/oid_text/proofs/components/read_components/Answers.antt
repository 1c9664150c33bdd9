use Rattle.std.proofs.Common.{◌∙◌, sym, flat_map}
use Rattle.ill_schema.specs.Texts.{after_dot}
use Rattle.oid_text.proofs.Dots.{components_text, numbers_at_dot, short_parts, two_once}
use Rattle.oid_text.proofs.Found.{none_unless}
use Rattle.oid_text.proofs.components.read_components.Goals as goal

pub returns-in_default-clause-unsaid : goal.returns-in_default-clause-unsaid
returns-in_default-clause-unsaid c n numbers short e = c.in_default.ensures n (flat_map after_dot numbers) (short_parts n numbers short).0 (numbers_at_dot numbers) (e ∙ components_text n numbers)

pub returns-clause-unsaid : goal.returns-clause-unsaid
returns-clause-unsaid c = none_unless c.then_some.result c.in_ok-is_read.is_read c.put_numbers.new.octets _ c.then_some.ensures (λ no n numbers short e.
    let found = c.in-Some.ensures in
    let parts = short_parts n numbers short in
    let same = two_once c.in-Some.number n c.in-Some.rest.now (flat_map after_dot numbers) found.0 parts.0 found.1 (numbers_at_dot numbers) (sym found.2 ∙ e ∙ components_text n numbers) in
    c.in_ok-is_read.ensures.unsaid no numbers parts.1 same.1)
