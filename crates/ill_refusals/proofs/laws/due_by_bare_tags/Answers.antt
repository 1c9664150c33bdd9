use Rattle.std.proofs.Common.{Bool, ap, refl}
use Rattle.ill_schema.specs.Tagging.{row_tagging}
use Rattle.ill_refusals.specs.Element.{node_components, starts_by}
use Rattle.ill_refusals.specs.Next.{next_due, next_missing, opening_by, after_by}
use Rattle.ill_refusals.proofs.laws.due_by_bare_tags.Goals as goal

pub returns-clause-tags : goal.returns-clause-tags
returns-clause-tags c = λ p q e row. ap (λ (bare : Bool). row_tagging bare row) e

pub returns-clause-rows : goal.returns-clause-rows
returns-clause-rows c = λ p q e node. ap (λ (bare : Bool). node_components bare node) e

pub returns-clause-begins : goal.returns-clause-begins
returns-clause-begins c = λ p q e x. ap (λ (bare : Bool). starts_by bare x) e

pub returns-clause-element : goal.returns-clause-element
returns-clause-element c = λ p q e t n. ap (λ (bare : Bool). next_due bare t n) e

pub returns-clause-lacks : goal.returns-clause-lacks
returns-clause-lacks c = λ p q e n. ap (λ (bare : Bool). next_missing bare n) e

pub returns-clause-opens : goal.returns-clause-opens
returns-clause-opens c = λ p q e x. ap (λ (bare : Bool). opening_by bare x) e

pub returns-clause-later : goal.returns-clause-later
returns-clause-later c = λ p q e n ts. ap (λ (bare : Bool). after_by bare n ts) e

pub returns-clause-named : goal.returns-clause-named
returns-clause-named c = λ p. refl
