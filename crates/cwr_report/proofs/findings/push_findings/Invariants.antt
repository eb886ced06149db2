use Rattle.std.proofs.Common.{◌≡◌, ◌+◌, ◌++◌}
use Rattle.std.specs.List.{AllByRecursion}
use Rattle.cwr_grammar.specs.RawParts.{IsPlaced, lines_in}
use Rattle.cwr_check.specs.CheckText.{faulty_count}
use Rattle.cwr_report.specs.Findings.{findings_after}
use Rattle.cwr_report.proofs.findings.push_findings.Given as goal

-- what is found and what is left make the whole, and so do the faulty transactions and the lines; each one left is placed
abbrev pub invariant-loop-transaction : goal.invariant-loop-transaction
invariant-loop-transaction g l = record {
  found : l.findings.items ++ findings_after l.fn.submitter l.lines l.transaction-iterator ≡ l.fn.findings.items ++ findings_after l.fn.submitter 0 l.transactions;
  counted : l.faulty + faulty_count l.fn.submitter l.transaction-iterator ≡ faulty_count l.fn.submitter l.transactions;
  passed : l.lines + lines_in l.transaction-iterator ≡ lines_in l.transactions;
  placed : AllByRecursion IsPlaced l.transaction-iterator;
}
