use Rattle.std.proofs.Common.{◌∙◌, ap, ◌++◌, List, ℕ}
use Rattle.std.proofs.lemmas.Result.{on_ok_weaker}
use Rattle.std.specs.Str.Lines.{lines}
use Rattle.cwr_report.specs.Reported.{Reported}
use Rattle.cwr_report.specs.Walks.{line_at}
use Rattle.cwr_report.specs.declared.finding.Finding.{Finding}
use Rattle.html_text.specs.Pieces.{page_text}
use Rattle.html_text.specs.declared.fragment.Fragment.TheVariants.{Faults, Remarks}
use Rattle.html_text.proofs.lemmas.Chains.{last_fixed, then_fixed, then_part}
use Rattle.check_pages.specs.Facts.{fault_count, some_header_pieces, linked_pieces, facts_pieces, counts_pieces}
use Rattle.check_pages.proofs.facts.put_facts.Goals as goal

pub returns : goal.returns
unfolding facts_pieces
returns g c =
    on_ok_weaker c.put-2.result
    (λ is.
    (then_fixed _ _ _ _ _ c.in_ok-put.ensures
    (then_part _ _ _ (some_header_pieces (line_at (lines c.args.bytes.now) 0) c.report.inside.refused) _ (c.in_ok-put_some_header.ensures ∙ ap (λ (l : List ℕ). c.put.new.out.items ++ page_text (some_header_pieces l c.report.inside.refused)) c.line_of.ensures)
    (then_part _ _ _ (counts_pieces (lines c.args.bytes.now) c.report.inside.transactions c.report.inside.refused) _ c.in_ok-put_counts.ensures
    (then_part _ _ _ (linked_pieces Faults (fault_count c.report.inside.findings.items c.report.inside.refused)) _ (c.in_ok-put_linked.ensures ∙ ap (λ (n : ℕ). c.put_counts.new.out.items ++ page_text (linked_pieces Faults n)) (c.fault_count.ensures.value ∙ ap (λ (f : List Finding). fault_count f c.report.inside.refused) c.deref.ensures.value))
    (then_part _ _ _ (linked_pieces Remarks c.args.remarks) _ c.in_ok-put_linked-2.ensures
    (last_fixed _ _ _ is)))))).is ∙ ap (λ (r : Reported). c.args.out.now.items ++ page_text (facts_pieces (lines c.args.bytes.now) r c.args.remarks)) c.report.view_is)
    c.put-2.ensures
