use Rattle.std.proofs.Common.{◌≡◌, drop}
use Rattle.check_pages.specs.Boxes.{is_inside}
use Rattle.check_pages.proofs.boxes.is_inside.Given as goal

-- what is left decides
abbrev pub invariant-loop-spot : goal.invariant-loop-spot
invariant-loop-spot l = is_inside (drop l.spot-index l.spots) l.place ≡ is_inside l.spots l.place
