use Rattle.std.proofs.Common.{rules}
use Rattle.cwr_engine.proofs.judged.judge_file.Goals as goal

pub returns-clause-judged : goal.returns-clause-judged
returns-clause-judged g c = search rules
