use Rattle.std.proofs.Common.{◌∙◌}
use Rattle.cwr_read_back.proofs.publisher_again.Goals as goal

pub returns : goal.returns
returns g c =
    c.read_publisher.ensures.again c.args.publisher.now c.in_ok-write_publisher.ensures.whole (c.deref.ensures.value ∙ (rw c.new-out.ensures.items at c.in_ok-write_publisher.ensures.ok))
