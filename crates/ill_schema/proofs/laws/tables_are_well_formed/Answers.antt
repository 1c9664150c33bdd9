use Rattle.ill_schema.proofs.Tags.{tags_differ, rows_name_below, rows_of_two}
use Rattle.ill_schema.proofs.Twins.{all_stand}
use Rattle.ill_schema.proofs.laws.tables_are_well_formed.Goals as goal

pub returns-clause-tags : goal.returns-clause-tags
returns-clause-tags c = tags_differ

pub returns-clause-below : goal.returns-clause-below
returns-clause-below c = rows_name_below

pub returns-clause-two : goal.returns-clause-two
returns-clause-two c = rows_of_two

pub returns-clause-twins : goal.returns-clause-twins
returns-clause-twins c = all_stand
