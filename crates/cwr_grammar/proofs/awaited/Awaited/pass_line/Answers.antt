use Rattle.std.proofs.Common.{◌≡◌, ◌+◌, arith}
use Rattle.cwr_grammar.proofs.awaited.Awaited.pass_line.Goals as goal

pub returns-clause-detail : goal.returns-clause-detail
returns-clause-detail c = let more : c.args.counts.now.details + 1 + 1 ≡ c.args.counts.now.details + 2 = omega arith in cc
