use Rattle.std.proofs.Common.{rules}
use Rattle.byte_streams.proofs.room.Room.bytes.Goals as goal

pub returns-clause-taken : goal.returns-clause-taken
returns-clause-taken c = search rules
