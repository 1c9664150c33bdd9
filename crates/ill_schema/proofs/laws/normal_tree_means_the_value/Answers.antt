use Rattle.ill_schema.proofs.Depths.{normal_depth}
use Rattle.ill_schema.proofs.Normal.{normal_means}
use Rattle.ill_schema.proofs.laws.normal_tree_means_the_value.Goals as goal

pub returns-clause-value : goal.returns-clause-value
returns-clause-value c = normal_means

pub returns-clause-depth : goal.returns-clause-depth
returns-clause-depth c = normal_depth
