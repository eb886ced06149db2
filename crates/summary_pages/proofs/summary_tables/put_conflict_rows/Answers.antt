use Rattle.html_text.proofs.lemmas.Pages.{one_more}
use Rattle.summary_pages.specs.SummaryPage.{conflict_pieces}
use Rattle.summary_pages.proofs.summary_tables.put_conflict_rows.Goals as goal

pub loop-one-preserved : goal.loop-one-preserved
loop-one-preserved g c =
    one_more (conflict_pieces c.args.whole) c.args.top.now c.loop-one.one-index _ _ _ _ c.loop-one-test.true c.in_ok-put_conflict.ensures c.loop-one.invariant
