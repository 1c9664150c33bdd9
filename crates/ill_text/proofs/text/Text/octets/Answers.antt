use Rattle.std.proofs.Common.{◌∙◌, ap, ◌++◌}
use Rattle.ill_text.proofs.text.Text.octets.Goals as goal

pub returns-in-Ok : goal.returns-in-Ok
returns-in-Ok c octets h = c.in-Ok.ensures.all octets h ∙ ap (λ x. x ++ octets) c.new.ensures.items
