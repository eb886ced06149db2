use Rattle.std.proofs.Common.{rules}
use Rattle.cwr_record.proofs.control.write_file_trailer.Goals as goal

pub returns-clause-ok : goal.returns-clause-ok
returns-clause-ok g c = search rules
