use Rattle.ill_read.proofs.decoder.Decoder.new.Goals as goal

pub returns-clause-open : goal.returns-clause-open
returns-clause-open c = c.new-2.ensures.«open» c.new.ensures

pub returns-clause-few : goal.returns-clause-few
returns-clause-few c = c.new-2.result.path.frames.few
