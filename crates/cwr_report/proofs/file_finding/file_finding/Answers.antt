use Rattle.std.proofs.Common.{◌<◌, ◌^◌, length, arith, rules}
use Rattle.cwr_report.proofs.Counting.{fault_near}
use Rattle.cwr_report.proofs.file_finding.file_finding.Goals as goal

pub at_line-at-requires : goal.at_line-at-requires
at_line-at-requires c =
    let short : length c.args.bytes.now < 2 ^ 63 = omega arith in
    omega (arith, c.saturating_sub.ensures, fault_near c.args.bytes.now c.args.line c.args.number short c.requires)

pub returns : goal.returns
returns c = search rules
