use Rattle.cwr_report.proofs.Counting.{passed_more, passed_end}
use Rattle.cwr_report.proofs.before.pass_line.Goals as goal

pub returns-in-None : goal.returns-in-None
returns-in-None c = λ all index so_far. passed_end c.args.before.now c.args.lines.now c.next.new.self all index c.in-None.ensures.steps so_far

pub returns-in-Some : goal.returns-in-Some
returns-in-Some c = λ all index so_far.
    passed_more c.args.before.now c.add_record.new.self c.args.lines.now c.next.new.self all index c.in-Some.line c.in-Some.ensures.steps c.add_record.ensures so_far
