use Rattle.std.proofs.Common.{rules}
use Rattle.cwr_record.proofs.line_room.LineRoom.bytes.Goals as goal

pub returns-clause-line : goal.returns-clause-line
returns-clause-line g c = search rules
