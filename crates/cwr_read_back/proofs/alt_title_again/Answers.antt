use Rattle.std.proofs.Common.{◌∙◌}
use Rattle.cwr_read_back.proofs.alt_title_again.Goals as goal

pub returns : goal.returns
returns g c =
    c.read_alt_title.ensures.again c.args.title.now c.in_ok-write_alt_title.ensures.whole (c.deref.ensures.value ∙ (rw c.new-out.ensures.items at c.in_ok-write_alt_title.ensures.ok))
