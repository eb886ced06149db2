use Rattle.cwr_report.proofs.before.header_place.Goals as goal

pub returns-then-before : goal.returns-then-before
returns-then-before c = rw c.if-before.true
