use Rattle.std.proofs.Common.{rules}
use Rattle.cwr_field.proofs.scan.is_run_free_before.Goals as goal

pub returns-then-not-has_in_run-clause-none : goal.returns-then-not-has_in_run-clause-none
returns-then-not-has_in_run-clause-none c = search rules
