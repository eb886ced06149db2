use Rattle.cwr_engine.specs.Account.{ReadEnds, WriteEnds}
use Rattle.cwr_engine.specs.JobSteps.{answers_in}
use Rattle.cwr_engine.proofs.Accounts.{sent, Appends-nil}
use Rattle.cwr_engine.proofs.engine.work_judged.Goals as goal

pub returns-in-Ok-clause-worked : goal.returns-in-Ok-clause-worked
returns-in-Ok-clause-worked g c = λ ts ends input judged given read_on few_reads read.
    let whole = (rw c.in-Ok.is at c.hand_in_file-registry.ensures.answered) ts judged in
    sent _ _ _ _ _ input _ ts (answers_in c.in-Ok.answered) given read_on few_reads read whole.answered whole.all c.answer_file.result
    (rw whole.header at c.answer_file.ensures)

pub returns-in-Err-clause-worked : goal.returns-in-Err-clause-worked
returns-in-Err-clause-worked g c = λ ts ends input judged given read_on few_reads read.
    let reader : ReadEnds = record {
      left_before = ends.left_before;
      left_after = ends.left_after;
      reads_before = ends.reads_before;
      reads_after = ends.reads_after;
      read_failed = ends.read_failed;
    } in
    let writer : WriteEnds = record {
      taken_before = g.W.Sink.taken c.args.writer.now;
      taken_after = g.W.Sink.taken c.args.writer.now;
      write_failed = g.W.Sink.has_failed c.args.writer.now;
    } in
    (rw c.in-Err.is at c.hand_in_file-registry.ensures.stopped) ts reader writer c.args.stamp.now input judged
    (record { given = given; read_on = read_on; few_reads = few_reads; read = read }) (Appends-nil _)
