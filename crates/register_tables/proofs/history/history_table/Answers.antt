use Rattle.std.proofs.Common.{List, subst}
use Rattle.std.specs.Io.KnownBytes.{Appends}
use Rattle.std.proofs.lemmas.Result.{IfOk-weaker}
use Rattle.csv.specs.Writing.{text_written}
use Rattle.work_registry.specs.EntryValue.{EntryValue}
use Rattle.register_tables.specs.HistoryTable.{entry_line, entry_rows}
use Rattle.register_tables.proofs.Steps.{table}
use Rattle.register_tables.proofs.history.history_table.Goals as goal

pub returns-clause-text : goal.returns-clause-text
returns-clause-text g c =
    IfOk-weaker c.ended.result _ _
    (λ told kept. table (g.W.Write.contents c.args.to) (text_written g.W.Write.contents c.in_ok-out.out) (text_written g.W.Write.contents c.put_entries.new.out)
    (g.W.Write.contents told.to) _ _
    (rw (c.performing_name.ensures, c.mechanical_name.ensures, c.synchronization_name.ensures) at c.in_ok-out.ensures.text)
    (subst (λ (entries : List EntryValue). Appends (text_written g.W.Write.contents c.in_ok-out.out) (text_written g.W.Write.contents c.put_entries.new.out) (entry_rows (entry_line c.args.form) c.args.wanted.now 1 entries))
    c.history.ensures.entries c.in_ok-rows.ensures.text)
    kept)
    c.ended.ensures.kept
