use Rattle.std.proofs.Common.{◌≤◌, take}
use Rattle.check_pages.specs.Boxes.{IsRun}
use Rattle.check_pages.proofs.boxes.edge.Given as goal

-- of the fields so far it is a run
abbrev pub invariant-loop-spot : goal.invariant-loop-spot
invariant-loop-spot l = record {
  run : IsRun (take l.spot-index l.spots) l.at l.end;
  most : l.end ≤ l.most;
}
