use Rattle.std.proofs.Common.{rules}
use Rattle.cwr_record.proofs.publishers.write_publisher_territory.Goals as goal

pub returns-clause-ok : goal.returns-clause-ok
returns-clause-ok g c = search rules
