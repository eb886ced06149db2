use Rattle.std.proofs.Common.{rules}
use Rattle.cwr_grammar.proofs.awaited.is_detail.Goals as goal

pub returns-in-Spu : goal.returns-in-Spu
returns-in-Spu c = search rules
