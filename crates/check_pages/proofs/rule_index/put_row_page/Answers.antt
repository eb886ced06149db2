use Rattle.std.proofs.Common.{◌∙◌, ap, ◌++◌, List, ℕ}
use Rattle.std.proofs.lemmas.Result.{on_ok_weaker}
use Rattle.rule_pages.specs.Pages.{requirement_of, violation_of, fix_of}
use Rattle.html_text.specs.Pieces.{page_text, text_pieces}
use Rattle.html_text.proofs.lemmas.Chains.{last_part, then_fixed, then_part}
use Rattle.check_pages.specs.RuleIndex.{row_page_pieces}
use Rattle.check_pages.proofs.rule_index.put_row_page.Goals as goal

pub returns : goal.returns
unfolding row_page_pieces
returns g c =
    on_ok_weaker c.put_text-3.result
    (λ is.
    (then_fixed _ _ _ _ _ c.in_ok-put.ensures
    (then_part _ _ _ (text_pieces (requirement_of c.args.rule)) _ (c.in_ok-put_text.ensures ∙ ap (λ (t : List ℕ). c.put.new.out.items ++ page_text (text_pieces t)) c.requirement.ensures)
    (then_fixed _ _ _ _ _ c.in_ok-put-2.ensures
    (then_part _ _ _ (text_pieces (violation_of c.args.rule)) _ (c.in_ok-put_text-2.ensures ∙ ap (λ (t : List ℕ). c.put-2.new.out.items ++ page_text (text_pieces t)) c.violation.ensures)
    (then_fixed _ _ _ _ _ c.in_ok-put-3.ensures
    (last_part _ _ (text_pieces (fix_of c.args.rule)) (is ∙ ap (λ (t : List ℕ). c.put-3.new.out.items ++ page_text (text_pieces t)) c.fix.ensures))))))).is)
    c.put_text-3.ensures
