use Rattle.ill_json.proofs.Added.{adds_as, adds_nothing, adds_then}
use Rattle.ill_json.proofs.Results.{no_words, some_words}
use Rattle.ill_json.proofs.place.put_words.Goals as goal

pub returns-then-not-is_empty : goal.returns-then-not-is_empty
returns-then-not-is_empty c = adds_as _ _ _ _ (some_words _ _ c.if-not-is_empty.ensures) (adds_then _ _ _ _ _ c.put.ensures c.put-then-not-is_empty.ensures)

pub returns-else-not-is_empty : goal.returns-else-not-is_empty
returns-else-not-is_empty c = adds_as _ _ _ _ (no_words _ _ c.if-not-is_empty.ensures) (adds_nothing _)
