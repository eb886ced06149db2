use Rattle.std.proofs.Common.{rules}
use Rattle.register_store.proofs.reading.new_book.Goals as goal

pub returns-clause-limit : goal.returns-clause-limit
returns-clause-limit g c = search rules
