use Rattle.std.proofs.Common.{rules}
use Rattle.cwr_field.proofs.field.party.Goals as goal

pub returns-then-is_blank : goal.returns-then-is_blank
returns-then-is_blank c = search rules
