use Rattle.std.proofs.Common.{rules}
use Rattle.report_json.proofs.json_runs.is_run_kept.Goals as goal

pub returns-then-not-has_byte_in_run-2 : goal.returns-then-not-has_byte_in_run-2
returns-then-not-has_byte_in_run-2 c = search rules
