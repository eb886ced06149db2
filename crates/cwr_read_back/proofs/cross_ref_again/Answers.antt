use Rattle.std.proofs.Common.{◌∙◌}
use Rattle.cwr_read_back.proofs.cross_ref_again.Goals as goal

pub returns : goal.returns
returns g c =
    c.read_cross_ref.ensures.again c.args.reference.now c.in_ok-write_cross_ref.ensures.whole (c.deref.ensures.value ∙ (rw c.new-out.ensures.items at c.in_ok-write_cross_ref.ensures.ok))
