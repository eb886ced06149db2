use Rattle.std.proofs.Common.{rules}
use Rattle.c_values.proofs.stamp.stamp_of.Goals as goal

pub returns-in_err-date : goal.returns-in_err-date
returns-in_err-date c = search rules

pub returns : goal.returns
returns c = search rules
