use Rattle.std.proofs.lemmas.Result.{on_ok_weaker}
use Rattle.html_text.proofs.lemmas.Chains.{last_part, then_part}
use Rattle.check_pages.specs.RuleIndex.{row_title_pieces, row_page_pieces, row_count_pieces, row_pieces}
use Rattle.check_pages.proofs.rule_index.put_row.Goals as goal

pub returns : goal.returns
unfolding row_pieces
returns g c =
    on_ok_weaker c.put_row_count.result
    (λ is.
    (then_part _ _ _ (row_title_pieces c.args.letter c.args.number c.args.rule) _ c.in_ok-put_row_title.ensures
    (then_part _ _ _ (row_page_pieces c.args.rule) _ c.in_ok-put_row_page.ensures
    (last_part _ _ (row_count_pieces c.args.letter c.args.number c.args.total) is))).is)
    c.put_row_count.ensures
