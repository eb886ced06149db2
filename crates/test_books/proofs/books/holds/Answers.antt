use Rattle.std.proofs.Common.{rules}
use Rattle.test_books.proofs.books.holds.Goals as goal

pub returns-clause-limit : goal.returns-clause-limit
returns-clause-limit g c = search rules
