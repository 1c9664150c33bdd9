use Rattle.std.proofs.Common.{◌∙◌, ap, not, sym}
use Rattle.ill_read.proofs.UsualTexts.{nothing, right_in}
use Rattle.ill_read.proofs.usual.text.put_any_text.Goals as goal

pub returns-clause-right : goal.returns-clause-right
returns-clause-right c good p = (c.fault.ensures.octets, right_in p c.args.leaf c.args.text.now (sym c.fault.ensures.fault ∙ nothing c.fault.result (c.is_none.ensures ∙ ap not good)))
