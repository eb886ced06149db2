use Rattle.std.proofs.Common.{rules}
use Rattle.test_books.proofs.books.call.Goals as goal

pub returns : goal.returns
returns g c = search rules
