use Rattle.std.proofs.Common.{◌+◌, vec_len}
use Rattle.cwr_desk.proofs.in_order.+order_from.Given as goal

abbrev pub decreases-order_from : goal.decreases-order_from
decreases-order_from g l = vec_len l.group + vec_len l.jobs
