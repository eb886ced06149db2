use Rattle.std.proofs.Common.{◌+◌, ◌*◌, vec_len}
use Rattle.cwr_desk.proofs.in_order.+reading.Given as goal

abbrev pub decreases-read_group : goal.decreases-read_group
decreases-read_group g l = 3 * vec_len l.jobs

abbrev pub decreases-read_beside : goal.decreases-read_beside
decreases-read_beside g l = 3 * vec_len l.jobs + 2

abbrev pub decreases-read_beside-join+arg3 : goal.decreases-read_beside-join+arg3
decreases-read_beside-join+arg3 g l = 3 * vec_len l.jobs + 1
