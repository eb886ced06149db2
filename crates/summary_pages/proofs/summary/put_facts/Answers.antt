use Rattle.summary_pages.specs.SummaryPage.{fact_pieces, facts_pieces}
use Rattle.summary_pages.proofs.Mapped.{one_more_mapped}
use Rattle.summary_pages.proofs.summary.put_facts.Goals as goal

pub loop-fact-preserved : goal.loop-fact-preserved
unfolding facts_pieces
loop-fact-preserved g c =
    one_more_mapped fact_pieces (λ fact. (fact.0.now, fact.1)) c.args.facts.now c.loop-fact.fact-index _ _ _ _ c.loop-fact-test.true c.in_ok-put_fact.ensures c.loop-fact.invariant
