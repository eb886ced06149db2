use Rattle.std.proofs.Common.{◌≡◌, ◌++◌, drop}
use Rattle.std.specs.List.{flat_map}
use Rattle.std.specs.Str.Lines.{lines}
use Rattle.report_texts.specs.LongText.{finding_text}
use Rattle.cwr_report.specs.Walks.{IsWalk}
use Rattle.report_texts.proofs.long_report.put_findings.Given as goal

-- what is written and what is left make the whole, and the walk goes over the file's lines
abbrev pub invariant-loop-finding : goal.invariant-loop-finding
invariant-loop-finding g l = record {
  written : l.out.items ++ flat_map (finding_text (lines l.bytes)) (drop l.finding-index l.findings) ≡ l.fn.out.items ++ flat_map (finding_text (lines l.bytes)) l.fn.findings;
  walk : IsWalk l.walk (lines l.bytes) l.walk.passed;
}
