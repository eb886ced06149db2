use Rattle.cwr_check.proofs.OpenJudges.{is_judged, goes_on}
use Rattle.cwr_check.proofs.short_report.ShortReportVisitor.detail.Goals as goal

pub take-requires-clause-open : goal.take-requires-clause-open
take-requires-clause-open g c =
    let b = c.requires.begun in
    let here = (is_judged _ _ _ b.3 b.4.1).1 in
    (b.3.kind, b.3.lines, here.judging, b.5)

pub returns : goal.returns
returns g c = λ first header whole t kept.
    let here = is_judged _ _ _ t kept.1 in
    (kept.0, goes_on _ _ _ _ t c.args.line.now here.0 here.1 (c.in_ok-take.ensures t.kind t.lines here.1.judging))
