use Rattle.std.proofs.Common.{length}
use Rattle.cwr_source.proofs.Visited.{ends_with}
use Rattle.cwr_source.proofs.visiting.VisitConsumer.end.Goals as goal

pub returns-clause-made : goal.returns-clause-made
returns-clause-made g c = λ first text h. c.in_ok-envelope.ensures.given first.visitor text (length h.passed) (ends_with _ _ _ _ h) h.lines_read
