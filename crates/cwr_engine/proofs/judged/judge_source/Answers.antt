use Rattle.std.proofs.lemmas.Result.{err_from_is_err_and}
use Rattle.cwr_engine.proofs.JudgedMore.{judged_whole}
use Rattle.cwr_engine.proofs.judged.judge_source.Goals as goal

pub returns-clause-judged : goal.returns-clause-judged
returns-clause-judged g c =
    let given = c.in_ok-envelope.ensures.given in
    (given.0, given.1, judged_whole _ _ _ _ _ _ _ given.2 given.2.kept.0 given.2.kept.1)

pub returns-in_err-envelope-clause-refused : goal.returns-in_err-envelope-clause-refused
returns-in_err-envelope-clause-refused g c =
    let p = err_from_is_err_and c.from_residual.result c.from_residual.ensures.1 in
    rw (p.1, p.2, c.end_text.ensures.fails) c.in_err-envelope.ensures.refused
