use Rattle.std.proofs.Common.{◌∙◌, rules, ap}
use Rattle.json.specs.Value.{value_view}
use Rattle.ill_build.proofs.Lists.{view-String}
use Rattle.ill_build.proofs.number.is_name.Goals as goal

pub returns-in-String-clause-yes : goal.returns-in-String-clause-yes
returns-in-String-clause-yes c t = (c.in-String.text.now, search (rules, c.is_name_of.ensures.yes t), ap value_view c.in-String.is ∙ view-String _ c.in-String.text)
