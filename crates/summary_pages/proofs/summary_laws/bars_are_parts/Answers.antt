use Rattle.summary_pages.proofs.BarWidths.{exact, full, seen}
use Rattle.summary_pages.proofs.summary_laws.bars_are_parts.Goals as goal

pub returns-clause-part : goal.returns-clause-part
returns-clause-part c = exact

pub returns-clause-seen : goal.returns-clause-seen
returns-clause-seen c = seen

pub returns-clause-full : goal.returns-clause-full
returns-clause-full c = full
