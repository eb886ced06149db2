use Rattle.std.proofs.Common.{rules}
use Rattle.byte_streams.proofs.room.Room.new.Goals as goal

pub returns-clause-works : goal.returns-clause-works
returns-clause-works c = search rules
