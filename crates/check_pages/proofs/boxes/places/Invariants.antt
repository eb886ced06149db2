use Rattle.std.proofs.Common.{◌≡◌, ◌≤◌, drop}
use Rattle.check_pages.specs.Boxes.{last_place, places}
use Rattle.check_pages.proofs.boxes.places.Given as goal

-- the fields that are left make the whole
abbrev pub invariant-loop-spot : goal.invariant-loop-spot
invariant-loop-spot l = record {
  value : last_place l.last (drop l.spot-index l.spots) ≡ places l.size l.spots;
  most : l.last ≤ 4096;
}
