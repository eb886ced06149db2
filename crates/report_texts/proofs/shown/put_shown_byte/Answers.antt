use Rattle.std.proofs.Common.{rules}
use Rattle.report_texts.proofs.shown.put_shown_byte.Goals as goal

pub returns-in_ok-extend_from_slice : goal.returns-in_ok-extend_from_slice
returns-in_ok-extend_from_slice g c = search rules
