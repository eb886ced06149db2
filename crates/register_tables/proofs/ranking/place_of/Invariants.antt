use Rattle.std.proofs.Common.{◌≡◌, ◌++◌, drop, take}
use Rattle.register_tables.specs.Summary.{placed}
use Rattle.register_tables.proofs.ranking.place_of.Given as goal

-- it is placed behind those before this one
abbrev pub invariant-loop-at : goal.invariant-loop-at
invariant-loop-at g l = placed g.T.Ranked.ahead l.one l.top ≡ take l.at l.top ++ placed g.T.Ranked.ahead l.one (drop l.at l.top)
