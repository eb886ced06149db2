use Rattle.std.proofs.Common.{◌+◌, ◌*◌, vec_len}
use Rattle.cwr_desk.proofs.serving.+fn-serve_from-join+arg3+serve_from.Given as goal

abbrev pub decreases-serve_from : goal.decreases-serve_from
decreases-serve_from g l = 2 * vec_len l.jobs

abbrev pub decreases-join+arg3 : goal.decreases-join+arg3
decreases-join+arg3 g l = 2 * vec_len l.jobs + 1
