use Rattle.std.proofs.Common.{◌∙◌}
use Rattle.cwr_read_back.proofs.ack_again.Goals as goal

pub returns : goal.returns
returns g c =
    c.read_ack.ensures.again c.args.ack.now c.in_ok-write_ack.ensures.whole (c.deref.ensures.value ∙ (rw c.new-out.ensures.items at c.in_ok-write_ack.ensures.ok))
