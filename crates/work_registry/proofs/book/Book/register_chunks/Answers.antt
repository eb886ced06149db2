use Rattle.std.proofs.Common.{ap, length, arith}
use Rattle.work_registry.specs.Register.{register_text}
use Rattle.work_registry.proofs.RegisterFits.{entries_fit}
use Rattle.work_registry.proofs.RegisterInChunks.{history_short}
use Rattle.work_registry.proofs.book.Book.register_chunks.Goals as goal

pub see_entries-requires : goal.see_entries-requires
see_entries-requires g c = rw c.history-entries.ensures.entries (entries_fit _ c.history-entries.ensures.numbered)

pub returns-clause-short : goal.returns-clause-short
returns-clause-short g c =
    history_short _ _ _ c.history-entries.ensures.entries c.history-entries.ensures.fits c.history-entries.ensures.most c.see_entries.ensures

pub invariant_of-result : goal.invariant_of-result
invariant_of-result g c =
    let len = ap length c.history-entries.ensures.entries in
    record {
      faults = tt;
      fit = rw c.history-entries.ensures.entries (entries_fit _ c.history-entries.ensures.numbered);
      first = omega arith;
      few = omega (arith, len, c.history-entries.ensures.fits, c.history-entries.ensures.most);
    }

pub returns-clause-text : goal.returns-clause-text
returns-clause-text g c = ap register_text c.history-entries.ensures.entries

pub returns-clause-whole : goal.returns-clause-whole
returns-clause-whole g c = rw (← c.history-entries.ensures.entries) c.see_entries.ensures
