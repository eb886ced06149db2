use Rattle.std.proofs.Common.{rules}
use Rattle.report_texts.proofs.shown.put_bytes.Goals as goal

pub returns-else-shows : goal.returns-else-shows
returns-else-shows g c = search rules
