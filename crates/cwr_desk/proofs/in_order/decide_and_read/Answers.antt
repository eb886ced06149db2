use Rattle.std.proofs.Common.{vec_len}
use Rattle.cwr_desk.specs.Ordered.{group_size}
use Rattle.cwr_desk.proofs.Ordered.{found_empty, no_items, none_read}
use Rattle.cwr_desk.proofs.in_order.decide_and_read.Goals as goal

pub returns-then-is_empty-clause-read : goal.returns-then-is_empty-clause-read
returns-then-is_empty-clause-read g c =
    none_read g.R.Source g.W.Sink group_size c.args.jobs c.args.next c.requires.unread (no_items c.args.next c.requires.unread.none)
    (λ some. found_empty (vec_len c.args.jobs) c.is_empty.result c.if-is_empty.true c.is_empty.ensures)
