use Rattle.std.proofs.Common.{sym, ◌∙◌}
use Rattle.cwr_check.proofs.CheckSteps.{told_more, none_more, one_more}
use Rattle.cwr_check.proofs.short_report.ShortReport.report.Goals as goal
use Rattle.cwr_check.proofs.short_report.ShortReport.report.Goals.{then-is_empty, else-is_empty}

pub returns-clause-told : goal.returns-clause-told
returns-clause-told g c = λ submitter whole t place_is faults_is h.
    told_more _ _ _ _ _ _ whole t c.args.faults.now faults_is (c.in_ok-put_transaction.ensures t place_is)
    (elim c.if-is_empty.branch [
      | then-is_empty w ↦ rw w.self-is (none_more c.args.faults.now c.args.self.now.faulty (sym c.is_empty.ensures ∙ w.if-is_empty.true))
      | else-is_empty w ↦ rw w.self-is (one_more c.args.faults.now c.args.self.now.faulty (sym c.is_empty.ensures ∙ w.if-is_empty.false))
    ])
    h
