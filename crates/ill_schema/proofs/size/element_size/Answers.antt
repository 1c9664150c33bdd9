use Rattle.ill_schema.proofs.Sizes.{element_sized}
use Rattle.ill_schema.proofs.size.element_size.Goals as goal

pub returns : goal.returns
returns c =
    let n = c.in_ok-contents.ensures in
    rw (← n.0) (element_sized c.args.replaced c.in_ok-contents.contents c.within_limit-2.result c.identifier_size.result c.length_size.result n.1 c.identifier_size.ensures.value c.length_size.ensures.value c.within_limit-2.ensures)
