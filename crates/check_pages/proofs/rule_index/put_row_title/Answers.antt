use Rattle.std.proofs.Common.{◌∙◌, ap, ◌++◌, List, ℕ}
use Rattle.std.proofs.lemmas.Result.{on_ok_weaker}
use Rattle.rule_pages.specs.Pages.{title_of}
use Rattle.html_text.specs.Pieces.{page_text, text_pieces}
use Rattle.html_text.proofs.lemmas.Chains.{last_part, then_fixed, then_part}
use Rattle.check_pages.specs.Faults.{rule_pieces}
use Rattle.check_pages.specs.RuleIndex.{row_title_pieces}
use Rattle.check_pages.proofs.rule_index.put_row_title.Goals as goal

pub returns : goal.returns
unfolding row_title_pieces
returns g c =
    on_ok_weaker c.put_rule-2.result
    (λ is.
    (then_fixed _ _ _ _ _ c.in_ok-put.ensures
    (then_part _ _ _ (rule_pieces c.args.letter c.args.number) _ c.in_ok-put_rule.ensures
    (then_fixed _ _ _ _ _ c.in_ok-put-2.ensures
    (then_part _ _ _ (text_pieces (title_of c.args.rule)) _ (c.in_ok-put_text.ensures ∙ ap (λ (t : List ℕ). c.put-2.new.out.items ++ page_text (text_pieces t)) c.title.ensures)
    (then_fixed _ _ _ _ _ c.in_ok-put-3.ensures
    (last_part _ _ (rule_pieces c.args.letter c.args.number) is)))))).is)
    c.put_rule-2.ensures
