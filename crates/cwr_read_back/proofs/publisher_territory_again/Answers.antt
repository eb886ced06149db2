use Rattle.std.proofs.Common.{◌∙◌}
use Rattle.cwr_read_back.proofs.publisher_territory_again.Goals as goal

pub returns : goal.returns
returns g c =
    c.read_publisher_territory.ensures.again c.args.territory.now c.in_ok-write_publisher_territory.ensures.whole (c.deref.ensures.value ∙ (rw c.new-out.ensures.items at c.in_ok-write_publisher_territory.ensures.ok))
