use Rattle.std.proofs.Common.{◌+◌, ◌*◌, vec_len}
use Rattle.cwr_desk.proofs.in_order.+deciding.Given as goal

abbrev pub decreases-decide_group : goal.decreases-decide_group
decreases-decide_group g l = 3 * vec_len l.group

abbrev pub decreases-answer_beside : goal.decreases-answer_beside
decreases-answer_beside g l = 3 * vec_len l.group + 2

abbrev pub decreases-answer_beside-join+arg3 : goal.decreases-answer_beside-join+arg3
decreases-answer_beside-join+arg3 g l = 3 * vec_len l.group + 1
