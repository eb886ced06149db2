use Rattle.std.proofs.Common.{rules}
use Rattle.test_books.proofs.books.gives_back.Goals as goal

pub returns-then-eq : goal.returns-then-eq
returns-then-eq g c = search rules
