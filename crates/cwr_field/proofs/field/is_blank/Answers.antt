use Rattle.std.proofs.Common.{rules}
use Rattle.cwr_field.proofs.field.is_blank.Goals as goal

pub returns : goal.returns
returns c = search rules
