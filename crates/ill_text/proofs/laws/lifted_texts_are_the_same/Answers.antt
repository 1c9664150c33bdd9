use Rattle.ill_text.proofs.LiftedTexts.{text_stays}
use Rattle.ill_text.proofs.laws.lifted_texts_are_the_same.Goals as goal

pub returns : goal.returns
returns c = text_stays
