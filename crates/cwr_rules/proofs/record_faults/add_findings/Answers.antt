use Rattle.std.proofs.Common.{List, ◌++◌, sym, ap, ◌∙◌, append-nil}
use Rattle.cwr_rules.specs.declared.finding.Finding.{Finding}
use Rattle.cwr_rules.specs.Rules.{publishers, name_of}
use Rattle.cwr_rules.specs.TransactionState.{rules_so_far}
use Rattle.cwr_rules.proofs.Findings.{none_found}
use Rattle.cwr_rules.proofs.record_faults.add_findings.Goals as goal

pub returns-else-has_finding : goal.returns-else-has_finding
returns-else-has_finding g c = λ before holds at sequence.
    let items = c.args.findings.now.items in
    let detail = c.args.detail.now in
    let none = none_found c.args.sequence (name_of detail) (rules_so_far before detail) (sym (c.if-has_finding.ensures before at (c.has_unknown_publisher-is_unknown.ensures (publishers before) before holds at))) in
    sym (ap (λ (fs : List Finding). items ++ fs) none ∙ append-nil items)
