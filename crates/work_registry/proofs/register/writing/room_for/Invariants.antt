use Rattle.std.proofs.Common.{◌≡◌, ◌≤◌, ◌*◌, length, take}
use Rattle.std.specs.List.{sum_by}
use Rattle.cwr_call.specs.Lawful.{max_faults}
use Rattle.work_registry.proofs.register.writing.room_for.Given as goal

abbrev pub invariant-loop-entry : goal.invariant-loop-entry
invariant-loop-entry g l = record {
  sum : l.faults ≡ sum_by (λ e. length e.call.faults) (take l.entry-index l.entries);
  few : l.faults ≤ max_faults * l.entry-index;
}
