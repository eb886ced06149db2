use Rattle.std.proofs.Common.{rules}
use Rattle.byte_streams.proofs.feed.Feed.new.Goals as goal

pub returns-clause-left : goal.returns-clause-left
returns-clause-left c = search rules
