use Rattle.std.proofs.Common.{◌≡◌, ◌++◌, drop}
use Rattle.report_texts.specs.LongText.{spots_text}
use Rattle.report_texts.proofs.long_lines.put_spots.Given as goal

-- what is written and what is left make the whole
abbrev pub invariant-loop-spot : goal.invariant-loop-spot
invariant-loop-spot g l = l.out.items ++ spots_text l.line (drop l.spot-index l.spots) ≡ l.fn.out.items ++ spots_text l.line l.fn.spots
