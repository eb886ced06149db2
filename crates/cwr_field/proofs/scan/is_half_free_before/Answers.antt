use Rattle.std.proofs.Common.{rules}
use Rattle.cwr_field.proofs.scan.is_half_free_before.Goals as goal

pub returns-then-not-has_in_half-clause-none : goal.returns-then-not-has_in_half-clause-none
returns-then-not-has_in_half-clause-none c = search rules
