use Rattle.ber_framing.specs.declared.framer.Framing.TheVariants as framed
use Rattle.ill_normal.proofs.TakenElements.{took_some}
use Rattle.ill_normal.proofs.next_message.take_element.Goals as goal

pub returns-in-Ok-take_rest-clause-element : goal.returns-in-Ok-take_rest-clause-element
returns-in-Ok-take_rest-clause-element g c =
    rw c.in-Unframed.is (c.in-Ok-take_rest.ensures.rest _ (took_some _ _ _ _ framed.Unframed (c.in-Ok.ensures.element framed.Unframed c.in-Unframed.ensures)))

pub returns-in-Err-take_rest-clause-broken : goal.returns-in-Err-take_rest-clause-broken
returns-in-Err-take_rest-clause-broken g c is_broken =
    let broken = c.in-Err-take_rest.ensures.broken is_broken in
    (broken.0, broken.1 _ (took_some _ _ _ _ framed.Unframed (c.in-Ok.ensures.element framed.Unframed c.in-Unframed.ensures)))
