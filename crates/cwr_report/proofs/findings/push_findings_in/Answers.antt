use Rattle.std.proofs.Common.{List, ◌++◌, not, map, sym, ap, ◌∙◌, append-nil}
use Rattle.cwr_call.specs.Lawful.{is_none_found}
use Rattle.cwr_call.specs.declared.transaction_fault.Fault.{Fault}
use Rattle.cwr_report.specs.Findings.{first_line, finding_of}
use Rattle.cwr_report.proofs.FindingSteps.{none_are, some_are}
use Rattle.cwr_report.proofs.findings.push_findings_in.Goals as goal

pub returns-then-is_empty-clause-findings : goal.returns-then-is_empty-clause-findings
returns-then-is_empty-clause-findings g c = λ submitter.
    let t = c.args.transaction.now in
    let items = c.args.findings.now.items in
    let none = none_are c.as_slice-faults.result.now (sym c.is_empty.ensures ∙ c.if-is_empty.true) in
    sym (append-nil items)
    ∙ ap
    (λ (fs : List Fault). items ++ map (finding_of (first_line c.args.lines t) t) fs)
    (sym none ∙ c.as_slice-faults.ensures ∙ c.in_ok-found.ensures submitter t.kind t.lines c.requires.read)

pub returns-then-is_empty-clause-faulty : goal.returns-then-is_empty-clause-faulty
returns-then-is_empty-clause-faulty g c = λ submitter.
    let t = c.args.transaction.now in
    let none = none_are c.as_slice-faults.result.now (sym c.is_empty.ensures ∙ c.if-is_empty.true) in
    ap (λ (fs : List Fault). not (is_none_found fs)) (sym none ∙ c.as_slice-faults.ensures ∙ c.in_ok-found.ensures submitter t.kind t.lines c.requires.read)

pub returns-clause-faulty : goal.returns-clause-faulty
returns-clause-faulty g c = λ submitter.
    let t = c.args.transaction.now in
    sym (some_are c.as_slice-faults.result.now (sym c.is_empty.ensures ∙ c.if-is_empty.false))
    ∙ ap (λ (fs : List Fault). not (is_none_found fs)) (c.as_slice-faults.ensures ∙ c.in_ok-found.ensures submitter t.kind t.lines c.requires.read)
