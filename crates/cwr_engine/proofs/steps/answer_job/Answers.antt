use Rattle.std.proofs.Common.{refl}
use Rattle.cwr_engine.specs.JobSteps.{answers_in}
use Rattle.cwr_engine.proofs.Accounts.{sent}
use Rattle.cwr_engine.proofs.steps.answer_job.Goals as goal

pub returns-in-Ok-clause-answered : goal.returns-in-Ok-clause-answered
returns-in-Ok-clause-answered g c = λ session job full entries after was.
    let all = rw c.in-Ok.is at was.answered in
    let whole = all.4 in
    sent session _ c.args.stamp.now entries after all.1 all.0 all.2 (answers_in c.in-Ok.file) all.3.given all.3.read_on all.3.few_reads all.3.read whole.answered whole.all
    c.answer_file-outcome.result (rw (whole.header, was.writer) at c.answer_file-outcome.ensures)

pub returns-in-Err-clause-answered : goal.returns-in-Err-clause-answered
returns-in-Err-clause-answered g c = λ session job full entries after was. (rw c.in-Err.is at was.ended) c.args.stamp.now

pub returns-in-Err-clause-ended : goal.returns-in-Err-clause-ended
returns-in-Err-clause-ended g c = rw c.in-Err.is (refl, refl)
