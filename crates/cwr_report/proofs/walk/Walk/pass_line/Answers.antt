use Rattle.cwr_report.proofs.Walking.{passed_more, passed_end}
use Rattle.cwr_report.proofs.walk.Walk.pass_line.Goals as goal

pub returns-in-None-clause-walk : goal.returns-in-None-clause-walk
returns-in-None-clause-walk c = λ lines so_far. passed_end c.args.self.now lines c.in-None.is so_far

pub returns-in-Some-clause-walk : goal.returns-in-Some-clause-walk
returns-in-Some-clause-walk c = λ lines so_far.
    passed_more c.args.self.now lines c.in-Some.line c.next-self.result c.next-self.new.self c.add_where.new.self c.in-Some.is c.next-self.ensures.steps c.add_where.ensures so_far
