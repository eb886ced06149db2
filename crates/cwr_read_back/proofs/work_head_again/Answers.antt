use Rattle.std.proofs.Common.{◌∙◌}
use Rattle.cwr_read_back.proofs.work_head_again.Goals as goal

pub returns : goal.returns
returns g c =
    c.read_work_head.ensures.again c.args.head.now c.in_ok-write_work_head.ensures.whole (c.deref.ensures.value ∙ (rw c.new-out.ensures.items at c.in_ok-write_work_head.ensures.ok))
