use Rattle.cwr_engine.specs.JobSteps.{entries_at}
use Rattle.cwr_engine.specs.WholeRun.{is_full}
use Rattle.cwr_engine.proofs.JobSteps.{was_handed_in, was_not_judged}
use Rattle.cwr_engine.proofs.lemmas.Turns.{lent_turns}
use Rattle.cwr_engine.proofs.steps.decide_job.Goals as goal

pub hand_in_file-registry-requires-clause-turns : goal.hand_in_file-registry-requires-clause-turns
hand_in_file-registry-requires-clause-turns g c = lent_turns c.args.session c.requires.few

pub returns-in-Ok-clause-decided : goal.returns-in-Ok-clause-decided
returns-in-Ok-clause-decided g c = λ job was.
    was_handed_in g.R.Source g.W.Sink c.args.session job c.args.read was (is_full c.replace-book.result) (entries_at c.args.session c.args.book)
    (entries_at c.args.session c.replace-book.result) c.in-Ok.file c.in-Ok.is c.hand_in_file-registry.result.1
    (rw c.replace-book.ensures.value (rw c.hand_in_file-registry.ensures.session at c.hand_in_file-registry.ensures.answered))
    (rw c.replace-book.ensures.value (rw c.hand_in_file-registry.ensures.session at c.hand_in_file-registry.ensures.stopped))

pub returns-in-Err-clause-decided : goal.returns-in-Err-clause-decided
returns-in-Err-clause-decided g c = λ job was.
    rw c.unjudged.ensures (was_not_judged g.R.Source g.W.Sink c.args.session job c.args.read was (is_full c.args.book) (entries_at c.args.session c.args.book)
    c.in-Err.refused c.in-Err.is)

pub returns-in-Ok-clause-answered : goal.returns-in-Ok-clause-answered
returns-in-Ok-clause-answered g c =
    rw c.in-Ok.is (rw c.replace-book.ensures.value (rw c.hand_in_file-registry.ensures.session at c.hand_in_file-registry.ensures.answered))
