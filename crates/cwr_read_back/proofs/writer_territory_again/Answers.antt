use Rattle.std.proofs.Common.{◌∙◌}
use Rattle.cwr_read_back.proofs.writer_territory_again.Goals as goal

pub returns : goal.returns
returns g c =
    c.read_writer_territory.ensures.again c.args.territory.now c.in_ok-write_writer_territory.ensures.whole (c.deref.ensures.value ∙ (rw c.new-out.ensures.items at c.in_ok-write_writer_territory.ensures.ok))
