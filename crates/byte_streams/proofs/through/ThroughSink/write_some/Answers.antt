use Rattle.std.proofs.Common.{rules}
use Rattle.byte_streams.proofs.through.ThroughSink.write_some.Goals as goal

pub returns-after-n-eq0-clause-fails : goal.returns-after-n-eq0-clause-fails
returns-after-n-eq0-clause-fails g c = search rules
