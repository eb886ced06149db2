use Rattle.std.proofs.Common.{◌∷◌, ◌++◌, [], sym, subst}
use Rattle.work_registry.specs.RegisterLine.{EntryLine, IsEntryLine}
use Rattle.work_registry.specs.RegisterFaults.{lines}
use Rattle.work_registry.proofs.RegisterLines.{lines_first}
use Rattle.work_registry.proofs.RegisterNextLine.{silent_line}
use Rattle.work_registry.proofs.register.reading.read_any_line.Goals as goal

pub returns-in_default-clause-fault : goal.returns-in_default-clause-fault
returns-in_default-clause-fault g c = λ more limit text count counted r.
    rw c.fault.ensures (silent_line limit count c.next_number.result text (c.args.line.now ++ 10 ∷ more) (c.args.line.now ++ 10 ∷ []) (lines more) c.args.history_index.now c.in_ok-entry.field-0 c.next_number.ensures
    (lines_first c.args.line.now more c.requires.one) c.in_default.is c.in_ok-entry.ensures.only counted r)

pub enter_recorded-requires-clause-says : goal.enter_recorded-requires-clause-says
enter_recorded-requires-clause-says g c =
    let P : EntryLine → Type 0 = λ x. IsEntryLine (c.args.line.now ++ 10 ∷ []) x in
    subst P (sym c.entry.view_is) (rw c.in-Some.is at c.in_ok-entry.ensures.says)
