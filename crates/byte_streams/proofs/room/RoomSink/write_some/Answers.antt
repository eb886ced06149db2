use Rattle.std.proofs.Common.{rules}
use Rattle.byte_streams.proofs.room.RoomSink.write_some.Goals as goal

pub returns-clause-bytes : goal.returns-clause-bytes
returns-clause-bytes c = search rules
