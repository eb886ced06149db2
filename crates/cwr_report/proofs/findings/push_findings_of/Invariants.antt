use Rattle.std.proofs.Common.{◌≡◌, ◌++◌, drop, map, true}
use Rattle.cwr_report.specs.Findings.{finding_of}
use Rattle.cwr_report.specs.Walks.{IsWalk}
use Rattle.cwr_report.proofs.findings.push_findings_of.Given as goal

-- what is found and what is left make the whole, and the walk goes over the transaction's lines
abbrev pub invariant-loop-fault : goal.invariant-loop-fault
invariant-loop-fault g l = record {
  found : l.findings.items ++ map (finding_of l.first l.transaction) (drop l.fault-index l.faults) ≡ l.fn.findings.items ++ map (finding_of l.first l.transaction) l.fn.faults;
  walk : IsWalk l.walk l.transaction.lines l.walk.passed;
  keeps : l.walk.keeps ≡ true;
}
