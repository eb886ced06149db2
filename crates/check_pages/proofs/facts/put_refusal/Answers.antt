use Rattle.std.proofs.Common.{◌∙◌, ap, ◌++◌, List, ℕ}
use Rattle.std.proofs.lemmas.Result.{on_ok_weaker}
use Rattle.report_texts.specs.FileText.{file_rule_text}
use Rattle.html_text.specs.Pieces.{page_text, text_pieces}
use Rattle.html_text.proofs.lemmas.Chains.{last_fixed, then_fixed, then_number, then_part}
use Rattle.check_pages.specs.Facts.{refused_by_pieces, refusal_pieces}
use Rattle.check_pages.proofs.facts.put_refusal.Goals as goal

pub returns : goal.returns
unfolding refusal_pieces
returns g c =
    on_ok_weaker c.put-2.result
    (λ is.
    (then_part _ _ _ (refused_by_pieces c.args.refused.now.number) _ c.in_ok-put_refused_by.ensures
    (then_part _ _ _ (text_pieces (file_rule_text c.args.refused.now.number)) _ (c.in_ok-put_text.ensures ∙ ap (λ (t : List ℕ). c.put_refused_by.new.out.items ++ page_text (text_pieces t)) c.file_rule_text.ensures)
    (then_fixed _ _ _ _ _ c.in_ok-put.ensures
    (then_number _ _ _ _ _ c.in_ok-put_number.ensures
    (last_fixed _ _ _ is))))).is)
    c.put-2.ensures
