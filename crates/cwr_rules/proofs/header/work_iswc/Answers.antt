use Rattle.std.proofs.Common.{refl, rules}
use Rattle.cwr_record.specs.Columns.{work_head_iswc}
use Rattle.cwr_rules.proofs.FrontFields.{blank_behind}
use Rattle.cwr_rules.proofs.header.work_iswc.Goals as goal

pub returns-then-head-clause-wrong : goal.returns-then-head-clause-wrong
returns-then-head-clause-wrong c = rw (blank_behind c.args.head.now work_head_iswc c.if-head.true) refl

pub returns-then-head-clause-value : goal.returns-then-head-clause-value
returns-then-head-clause-value c = rw (blank_behind c.args.head.now work_head_iswc c.if-head.true) refl

pub returns-in-Wrong-clause-wrong : goal.returns-in-Wrong-clause-wrong
returns-in-Wrong-clause-wrong c = search rules
