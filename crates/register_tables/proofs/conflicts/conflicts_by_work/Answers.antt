use Rattle.std.proofs.Common.{List}
use Rattle.work_registry.specs.EntryValue.{EntryValue}
use Rattle.register_tables.proofs.Counts.{conflicts_step}
use Rattle.register_tables.proofs.conflicts.conflicts_by_work.Goals as goal

pub loop-index-preserved : goal.loop-index-preserved
loop-index-preserved g c =
    let entries : List EntryValue = c.args.entries.now in
    let step = conflicts_step c.args.last entries c.loop-index.index c.index-entries-index.result c.loop-index.counts.items
    c.loop-index-test.true c.loop-index.auto.index c.requires c.index-entries-index.is c.loop-index.invariant in
    rw (c.note.ensures, c.reply.ensures) step
