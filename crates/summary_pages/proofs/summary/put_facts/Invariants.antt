use Rattle.std.proofs.Common.{◌≡◌, ◌++◌, drop, map}
use Rattle.html_text.specs.Pieces.{page_text}
use Rattle.summary_pages.specs.SummaryPage.{facts_pieces}
use Rattle.summary_pages.proofs.summary.put_facts.Given as goal

-- what is written and what is left make the whole
abbrev pub invariant-loop-fact : goal.invariant-loop-fact
invariant-loop-fact g l =
    l.out.items ++ page_text (facts_pieces (map (λ fact. (fact.0.now, fact.1)) (drop l.fact-index l.facts)))
    ≡ l.fn.out.items ++ page_text (facts_pieces (map (λ fact. (fact.0.now, fact.1)) l.fn.facts))
