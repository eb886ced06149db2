use Rattle.std.proofs.Common.{rules}
use Rattle.work_registry.proofs.book.Book.limit.Goals as goal

pub returns-clause-value : goal.returns-clause-value
returns-clause-value g c = search rules

pub returns-clause-least : goal.returns-clause-least
returns-clause-least g c = search rules
