use Rattle.std.proofs.Common.{◌∙◌}
use Rattle.cwr_read_back.proofs.header_again.Goals as goal

pub returns : goal.returns
returns g c =
    c.read_header.ensures.again c.args.header.now c.in_ok-write_header.ensures.whole (c.deref.ensures.value ∙ (rw c.new-out.ensures.items at c.in_ok-write_header.ensures.ok))
