use Rattle.html_text.proofs.lemmas.Pages.{one_more}
use Rattle.summary_pages.specs.SummaryPage.{submitter_pieces}
use Rattle.summary_pages.proofs.summary_tables.put_submitter_rows.Goals as goal

pub loop-one-preserved : goal.loop-one-preserved
loop-one-preserved g c =
    one_more (submitter_pieces c.args.whole) c.args.most.now c.loop-one.one-index _ _ _ _ c.loop-one-test.true c.in_ok-put_submitter.ensures c.loop-one.invariant
