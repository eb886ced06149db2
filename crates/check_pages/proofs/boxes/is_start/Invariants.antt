use Rattle.std.proofs.Common.{◌≡◌, drop}
use Rattle.check_pages.specs.Boxes.{is_start}
use Rattle.check_pages.proofs.boxes.is_start.Given as goal

-- what is left decides
abbrev pub invariant-loop-spot : goal.invariant-loop-spot
invariant-loop-spot l = is_start (drop l.spot-index l.spots) l.place ≡ is_start l.spots l.place
