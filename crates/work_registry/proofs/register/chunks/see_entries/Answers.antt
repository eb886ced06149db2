use Rattle.work_registry.specs.Register.{FitsEntry, IsWholeEntry}
use Rattle.work_registry.proofs.RegisterSteps.{one_of_all}
use Rattle.work_registry.proofs.EachOfList.{at_item, all_of_take}
use Rattle.work_registry.proofs.register.chunks.see_entries.Goals as goal

pub loop-entry-preserved : goal.loop-entry-preserved
loop-entry-preserved g c = one_of_all IsWholeEntry c.args.entries.now c.loop-entry.entry-index c.entry-item.result c.loop-entry-test.true c.entry-item.is c.loop-entry.invariant c.see_entry.ensures

pub see_entry-requires : goal.see_entry-requires
see_entry-requires g c = at_item FitsEntry c.args.entries.now c.loop-entry.entry-index c.entry-item.result c.loop-entry-test.true c.entry-item.is c.requires

pub returns : goal.returns
returns g c = all_of_take IsWholeEntry c.args.entries.now c.loop-entry.entry-index c.loop-entry-test.false c.loop-entry.invariant
