use Rattle.std.proofs.Common.{◌∙◌}
use Rattle.cwr_read_back.proofs.message_again.Goals as goal

pub returns : goal.returns
returns g c =
    c.read_message.ensures.again c.args.message.now c.in_ok-write_message.ensures.whole (c.deref.ensures.value ∙ (rw c.new-out.ensures.items at c.in_ok-write_message.ensures.ok))
