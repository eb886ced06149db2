use Rattle.cwr_report.proofs.Reported.{file_reported}
use Rattle.cwr_report.proofs.reporting.report_of_file.Goals as goal

pub returns : goal.returns
returns g c =
    let sub = c.requires.file.2 in
    file_reported _ c.requires.file.0 c.args.file.now.transactions c.args.file.now.header.sender c.new-findings.result.items c.push_findings.new.findings.items
    c.len.result c.in_ok-faulty.faulty
    c.requires.file.1 sub.transactions sub.header.1.0 c.new-findings.ensures.items c.in_ok-faulty.ensures.findings c.len.ensures c.in_ok-faulty.ensures.faulty
