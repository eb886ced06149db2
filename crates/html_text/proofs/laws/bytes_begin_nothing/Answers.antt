use Rattle.html_text.proofs.Delimiters.{piece, delimiters}
use Rattle.html_text.proofs.laws.bytes_begin_nothing.Goals as goal

pub returns-clause-piece : goal.returns-clause-piece
returns-clause-piece c = λ p other. (piece p other).0

pub returns-clause-page : goal.returns-clause-page
returns-clause-page c = λ page. delimiters page
