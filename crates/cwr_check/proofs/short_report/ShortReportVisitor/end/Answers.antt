use Rattle.std.proofs.Common.{[], arith, ◌∙◌}
use Rattle.cwr_check.specs.ShortReport.{IsJudgedAt}
use Rattle.cwr_check.proofs.OpenJudges.{is_judged}
use Rattle.cwr_check.proofs.short_report.ShortReportVisitor.end.Goals as goal

pub faults-requires : goal.faults-requires
faults-requires g c =
    let b = c.requires.begun in
    let here = (is_judged _ _ _ b.3 b.4.1).1 in
    record { «open» = (b.3.kind, b.3.lines, here.judging, b.5) }

pub report-requires-clause-few : goal.report-requires-clause-few
report-requires-clause-few g c =
    let b = c.requires.begun in
    let told = b.4.0 [] in
    omega (arith, told.transactions_are, b.6)

pub report-requires-clause-faulty : goal.report-requires-clause-faulty
report-requires-clause-faulty g c = (c.requires.begun.4.0 []).few

pub returns : goal.returns
returns g c = λ first header whole t kept.
    let here : IsJudgedAt c.args.self.now.place c.args.self.now.judge t = (is_judged _ _ _ t kept.1).1 in
    (λ submitter. c.in_ok-report.ensures.told submitter whole t here.place_is (c.as_slice.ensures ∙ c.in_ok-faults.ensures submitter t.kind t.lines here.judging) (kept.0 submitter), tt)
