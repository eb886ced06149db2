use Rattle.std.proofs.Common.{vec_len}
use Rattle.cwr_desk.proofs.in_order.+put_behind.Given as goal

abbrev pub decreases-put_behind : goal.decreases-put_behind
decreases-put_behind g l = vec_len l.worked.now
