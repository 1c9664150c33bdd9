use Rattle.std.proofs.Common.{sym}
use Rattle.ill_grammar.proofs.MarkedValues.{other_mark}
use Rattle.ill_text.proofs.Sent.{adds_as, adds_nothing}
use Rattle.ill_text.proofs.leaf.put_mark.Goals as goal

pub returns-in_default : goal.returns-in_default
returns-in_default g c = record { adds = adds_as _ _ _ _ (sym (other_mark c.args.mark (λ o e. c.in_default.not-Octet o e))) (adds_nothing _); stays = λ h. h }
