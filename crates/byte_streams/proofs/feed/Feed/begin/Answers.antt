use Rattle.std.proofs.Common.{rules}
use Rattle.byte_streams.proofs.feed.Feed.begin.Goals as goal

pub returns-in-Some-clause-fails : goal.returns-in-Some-clause-fails
returns-in-Some-clause-fails c = search rules
