use Rattle.std.specs.Str.Lines.{lines}
use Rattle.cwr_report.proofs.lemmas.GoneTo.{gone_to}
use Rattle.report_texts.proofs.OneByOne.{told_more}
use Rattle.report_texts.proofs.long_report.put_findings.Goals as goal

pub loop-finding-preserved : goal.loop-finding-preserved
loop-finding-preserved g c =
    let all = lines c.args.bytes.now in
    record {
      written =
          told_more all c.of-in-loop-finding.result c.args.findings.now c.loop-finding.finding-index c.saturating_sub.result _
          c.go_to-line.result.now c.loop-finding.out.items c.put_finding.new.out.items _
          c.saturating_sub.ensures c.of-in-loop-finding.ensures c.loop-finding-test.true c.go_to-line.ensures.line
          c.in_ok-put_finding.ensures c.loop-finding.invariant.written;
      walk = gone_to c.go_to-line.new.self c.of-in-loop-finding.result all c.saturating_sub.result c.of-in-loop-finding.ensures c.go_to-line.ensures.walk;
    }
