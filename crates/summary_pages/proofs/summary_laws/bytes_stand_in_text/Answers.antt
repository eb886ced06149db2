use Rattle.summary_pages.proofs.ContextsOfSummaries.{summary}
use Rattle.summary_pages.proofs.summary_laws.bytes_stand_in_text.Goals as goal

pub returns : goal.returns
returns c = record { summary = summary }
