use Rattle.std.proofs.Common.{rules}
use Rattle.work_registry.proofs.book.Book.claim.Goals as goal

pub returns-in_err-kept : goal.returns-in_err-kept
returns-in_err-kept g c = search rules

pub returns : goal.returns
returns g c = search rules
