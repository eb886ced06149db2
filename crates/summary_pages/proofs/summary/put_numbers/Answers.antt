use Rattle.std.proofs.lemmas.Result.{on_ok_weaker}
use Rattle.html_text.specs.declared.fragment.Fragment.TheVariants.{Facts, FactsEnd}
use Rattle.summary_pages.specs.SummaryPage.{fact_rows, facts_pieces, numbers_pieces}
use Rattle.summary_pages.proofs.Tables.{between}
use Rattle.summary_pages.proofs.summary.put_numbers.Goals as goal

pub returns : goal.returns
unfolding numbers_pieces
returns g c =
    on_ok_weaker c.put-2.result
    (between c.args.out.now.items c.put.new.out.items c.put_facts.new.out.items c.put-2.new.out.items Facts FactsEnd
    (facts_pieces (fact_rows c.args.entries c.args.works c.args.claims c.args.submitters)) c.in_ok-put.ensures c.in_ok-put_facts.ensures)
    c.put-2.ensures
