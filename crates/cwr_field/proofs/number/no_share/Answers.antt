use Rattle.std.proofs.Common.{rules}
use Rattle.cwr_field.proofs.number.no_share.Goals as goal

pub returns-then-are_blank : goal.returns-then-are_blank
returns-then-are_blank c = search rules
