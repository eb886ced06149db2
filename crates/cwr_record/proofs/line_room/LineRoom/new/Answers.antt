use Rattle.std.proofs.Common.{rules}
use Rattle.cwr_record.proofs.line_room.LineRoom.new.Goals as goal

pub returns : goal.returns
returns g c = search rules
