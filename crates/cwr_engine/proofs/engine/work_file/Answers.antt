use Rattle.std.proofs.Common.{false, None}
use Rattle.cwr_engine.specs.Account.{Ends}
use Rattle.cwr_engine.proofs.Accounts.{not_judged, read_whole, within, Appends-nil}
use Rattle.cwr_engine.proofs.engine.work_file.Goals as goal

pub returns-in-Ok-clause-worked : goal.returns-in-Ok-clause-worked
returns-in-Ok-clause-worked g c =
    let was = c.in-Ok.ensures.judged in
    let ends : Ends = record {
      left_before = g.R.Source.left c.args.reader.now;
      left_after = g.R.Source.left c.judge_source.new.reader;
      reads_before = g.R.Source.reads c.args.reader.now;
      reads_after = g.R.Source.reads c.judge_source.new.reader;
      taken_before = None;
      taken_after = None;
      read_failed = g.R.Source.has_failed c.judge_source.new.reader;
      write_failed = false;
      full = false;
      may_shut = false;
    } in
    c.work_judged.ensures.worked was.2.transactions ends was.0 (within _ _ _ was.1.0 was.2) was.1.1
    c.judge_source.ensures.read_on c.judge_source.ensures.few_reads (read_whole _ _ _ was.1.0 was.2)

pub work_judged-requires-clause-judged : goal.work_judged-requires-clause-judged
work_judged-requires-clause-judged g c =
    let was = c.in-Ok.ensures.judged in
    (was.2.transactions, within _ _ _ was.1.0 was.2)

pub returns-in-Err-clause-worked : goal.returns-in-Err-clause-worked
returns-in-Err-clause-worked g c =
    rw c.unjudged.ensures (not_judged _ _ _ _ (Appends-nil _) c.judge_source.ensures.read_on c.judge_source.ensures.few_reads c.in-Err.refused c.in-Err.ensures.refused)
