use Rattle.check_pages.proofs.ClosedMarks.{apart}
use Rattle.check_pages.proofs.laws.marks_are_apart.Goals as goal

pub returns : goal.returns
returns c = λ line spots begin is. apart line spots begin is
