use Rattle.std.proofs.Common.{◌∙◌, Ok, sym, ap}
use Rattle.ill_tables.specs.declared.profile.Profile.TheVariants.{Two}
use Rattle.ill_read.proofs.MessageEnds.{ended_whole, ended_none, ended_failed}
use Rattle.ill_read.proofs.decoder.Decoder.finish.Goals as goal

pub returns-in-Ok-true-clause-open : goal.returns-in-Ok-true-clause-open
returns-in-Ok-true-clause-open c fed h = absurd (ended_whole fed (sym (c.ended.ensures.«open» Two fed h) ∙ c.in-Ok-true.is ∙ ap Ok c.in-Ok-true.field-0-test))

pub returns-in-Ok-false-clause-open : goal.returns-in-Ok-false-clause-open
returns-in-Ok-false-clause-open c fed h = ended_none fed (sym (c.ended.ensures.«open» Two fed h) ∙ c.in-Ok-false.is ∙ ap Ok c.in-Ok-false.field-0-test)

pub returns-in-Err-clause-open : goal.returns-in-Err-clause-open
returns-in-Err-clause-open c fed h = ended_failed fed c.in-Err.failure (sym (c.ended.ensures.«open» Two fed h) ∙ c.in-Err.is)
