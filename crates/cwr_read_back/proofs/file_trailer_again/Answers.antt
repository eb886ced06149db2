use Rattle.std.proofs.Common.{◌∙◌}
use Rattle.cwr_read_back.proofs.file_trailer_again.Goals as goal

pub returns : goal.returns
returns g c =
    c.read_file_trailer.ensures.again c.args.trailer.now c.in_ok-write_file_trailer.ensures.whole (c.deref.ensures.value ∙ (rw c.new-out.ensures.items at c.in_ok-write_file_trailer.ensures.ok))
