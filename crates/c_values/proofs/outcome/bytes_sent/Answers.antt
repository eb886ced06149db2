use Rattle.std.proofs.Common.{rules}
use Rattle.c_values.proofs.outcome.bytes_sent.Goals as goal

pub returns-in-Write : goal.returns-in-Write
returns-in-Write c = search rules
