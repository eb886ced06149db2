use Rattle.std.proofs.Common.{rules}
use Rattle.cwr_field.proofs.CodeDigits.{check_is}
use Rattle.cwr_field.proofs.work_code.check_of.Goals as goal

pub returns : goal.returns
returns c = λ n is. check_is c.args.digits n (search rules) is
