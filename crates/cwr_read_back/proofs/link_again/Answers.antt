use Rattle.std.proofs.Common.{◌∙◌}
use Rattle.cwr_read_back.proofs.link_again.Goals as goal

pub returns : goal.returns
returns g c =
    c.read_link.ensures.again c.args.link.now c.in_ok-write_link.ensures.whole (c.deref.ensures.value ∙ (rw c.new-out.ensures.items at c.in_ok-write_link.ensures.ok))
