use Rattle.std.proofs.Common.{rules}
use Rattle.register_store.proofs.taking.no_book.Goals as goal

pub returns-in-Unread-Read : goal.returns-in-Unread-Read
returns-in-Unread-Read c = search rules
