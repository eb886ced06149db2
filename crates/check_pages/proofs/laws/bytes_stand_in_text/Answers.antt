use Rattle.check_pages.proofs.ContextsOfChecks.{check}
use Rattle.check_pages.proofs.laws.bytes_stand_in_text.Goals as goal

pub returns : goal.returns
returns c = record { check = check }
