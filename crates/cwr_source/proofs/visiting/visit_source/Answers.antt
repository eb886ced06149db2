use Rattle.cwr_source.proofs.Visited.{nothing_passed}
use Rattle.cwr_source.proofs.visiting.visit_source.Goals as goal

pub consume-requires-clause-first : goal.consume-requires-clause-first
consume-requires-clause-first g c = λ text. nothing_passed _ c.new.result text c.new.ensures c.requires.kept
