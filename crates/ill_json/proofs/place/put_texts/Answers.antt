use Rattle.ill_json.proofs.Added.{adds_as, adds_nothing, adds_then}
use Rattle.ill_json.proofs.Results.{text_step}
use Rattle.ill_json.proofs.place.put_texts.Goals as goal

pub loop-text-init : goal.loop-text-init
loop-text-init c = adds_nothing _

pub loop-text-preserved : goal.loop-text-preserved
loop-text-preserved c =
    adds_as _ _ _ _ (text_step c.args.texts.now c.loop-text.text-index c.text-item.result c.deref.result.now c.loop-text-test.true c.text-item.is c.deref.ensures) (adds_then _ _ _ _ _ c.loop-text.invariant c.put.ensures)
