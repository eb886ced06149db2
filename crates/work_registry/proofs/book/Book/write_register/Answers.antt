use Rattle.work_registry.proofs.RegisterFits.{entries_fit}
use Rattle.work_registry.proofs.book.Book.write_register.Goals as goal

pub register_of-requires-clause-fit : goal.register_of-requires-clause-fit
register_of-requires-clause-fit g c = rw c.history.ensures.entries (entries_fit _ c.history.ensures.numbered)

pub returns-clause-text : goal.returns-clause-text
returns-clause-text g c = rw (← c.history.ensures.entries) c.register_of.ensures.text
