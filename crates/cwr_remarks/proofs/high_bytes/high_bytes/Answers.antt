use Rattle.std.proofs.Common.{rules, sym}
use Rattle.cwr_remarks.proofs.LowBytes.{none_high}
use Rattle.cwr_remarks.proofs.high_bytes.high_bytes.Goals as goal

pub returns-then-is_free_before : goal.returns-then-is_free_before
returns-then-is_free_before c = sym (none_high c.args.line.now (c.is_free_before.ensures.none c.if-is_free_before.true))

pub returns : goal.returns
returns c = search rules
