use Rattle.std.proofs.Common.{◌∙◌}
use Rattle.cwr_read_back.proofs.writer_again.Goals as goal

pub returns : goal.returns
returns g c =
    c.read_writer.ensures.again c.args.writer.now c.in_ok-write_writer.ensures.whole (c.deref.ensures.value ∙ (rw c.new-out.ensures.items at c.in_ok-write_writer.ensures.ok))
