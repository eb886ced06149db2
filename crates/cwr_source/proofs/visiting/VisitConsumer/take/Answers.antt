use Rattle.std.proofs.Common.{length}
use Rattle.std.proofs.lemmas.Result.{IfErr-weaker}
use Rattle.cwr_source.proofs.Visited.{ok_of, stands, few, passes}
use Rattle.cwr_source.proofs.visiting.VisitConsumer.take.Goals as goal

pub take_lines-requires : goal.take_lines-requires
take_lines-requires g c =
    let r = c.requires in
    let h = r.6 in
    (r.0.visitor, r.1, length h.passed, h.lines_read, stands _ _ _ _ _ h, few _ _ _ _ _ h r.3 r.4 r.5)

pub returns-clause-left : goal.returns-clause-left
returns-clause-left g c =
    ok_of c.take_lines.result (λ count inside taken first text later h. passes _ _ _ c.args.chunk.now later h _ _ count inside (taken first.visitor text (length h.passed) (stands _ _ _ _ _ h) h.lines_read))
    c.take_lines.ensures.inside c.take_lines.ensures.taken

pub returns-clause-fault : goal.returns-clause-fault
returns-clause-fault g c =
    IfErr-weaker c.take_lines.result _ _ (λ refusal faulty first text later h. faulty first.visitor text (length h.passed) (stands _ _ _ _ _ h) h.lines_read) c.take_lines.ensures.fault
