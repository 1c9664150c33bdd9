use Rattle.std.proofs.Common.{sym, ◌∙◌}
use Rattle.test_messages.proofs.read.contracts.decoders_end_as_they_were_fed.Goals as goal

pub returns : goal.returns
returns c =
    let f = c.requires in
    c.finish.ensures.open f.0 f.1 ∙ sym (c.finish-2.ensures.open f.0 f.2)
