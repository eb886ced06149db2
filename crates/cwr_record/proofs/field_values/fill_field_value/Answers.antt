use Rattle.std.proofs.Common.{rules}
use Rattle.cwr_record.proofs.field_values.fill_field_value.Goals as goal

pub returns-in-OptionalDay-Some-clause-text : goal.returns-in-OptionalDay-Some-clause-text
returns-in-OptionalDay-Some-clause-text c = search rules

pub returns-in-OptionalDay-Some-clause-dated : goal.returns-in-OptionalDay-Some-clause-dated
returns-in-OptionalDay-Some-clause-dated c = search rules
