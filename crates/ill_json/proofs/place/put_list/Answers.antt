use Rattle.ill_json.proofs.Added.{adds_as, adds_nothing, adds_then}
use Rattle.ill_json.proofs.Results.{no_texts, some_texts}
use Rattle.ill_json.proofs.place.put_list.Goals as goal

pub returns-then-not-is_empty : goal.returns-then-not-is_empty
returns-then-not-is_empty c =
    adds_as _ _ _ _ (some_texts _ c.args.texts.now c.if-not-is_empty.ensures)
    (adds_then _ _ _ _ _ c.put.ensures (adds_then _ _ _ _ _ c.put-then-not-is_empty.ensures (adds_then _ _ _ _ _ c.put_texts.ensures c.put-then-not-is_empty-2.ensures)))

pub returns-else-not-is_empty : goal.returns-else-not-is_empty
returns-else-not-is_empty c = adds_as _ _ _ _ (no_texts _ c.args.texts.now c.if-not-is_empty.ensures) (adds_nothing _)
