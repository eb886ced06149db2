use Rattle.check_pages.proofs.BoxedLines.{shows}
use Rattle.check_pages.proofs.laws.boxes_show_their_lines.Goals as goal

pub returns-clause-bytes : goal.returns-clause-bytes
returns-clause-bytes c = λ line spots begin none. shows line spots begin none
