use Rattle.std.proofs.Common.{refl, rules, arith}
use Rattle.cwr_record.specs.Columns.{work_head_copyright_date, work_head_duration}
use Rattle.cwr_rules.proofs.FrontFields.{blank_behind}
use Rattle.cwr_rules.proofs.header.has_wrong_date.Goals as goal

pub returns-then-head : goal.returns-then-head
returns-then-head c =
    let head = c.args.head.now in
    rw (blank_behind head work_head_copyright_date c.if-head.true, blank_behind head work_head_duration (omega (arith, c.if-head.true))) refl

pub returns : goal.returns
returns c = search rules
