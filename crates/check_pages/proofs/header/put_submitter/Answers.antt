use Rattle.std.proofs.lemmas.Result.{on_ok_weaker}
use Rattle.cwr_field.specs.Layout.{field}
use Rattle.cwr_record.specs.Columns.{field_at, header_name}
use Rattle.cwr_record.specs.Territory.{without_trailing}
use Rattle.html_text.specs.Pieces.{shown}
use Rattle.html_text.proofs.lemmas.Chains.{last_fixed, then_fixed, then_part}
use Rattle.check_pages.specs.Facts.{submitter_pieces}
use Rattle.check_pages.proofs.header.put_submitter.Goals as goal

pub returns : goal.returns
unfolding submitter_pieces
returns g c =
    on_ok_weaker c.put-4.result
    (λ is.
    (then_fixed _ _ _ _ _ c.in_ok-put.ensures
    (then_part _ _ _ (shown (field c.args.line.now 4 2)) _ c.in_ok-put_part.ensures
    (then_fixed _ _ _ _ _ c.in_ok-put-2.ensures
    (then_part _ _ _ (shown (field c.args.line.now 6 9)) _ c.in_ok-put_part-2.ensures
    (then_fixed _ _ _ _ _ c.in_ok-put-3.ensures
    (then_part _ _ _ (shown (without_trailing (field_at c.args.line.now header_name))) _ c.in_ok-put_name.ensures
    (last_fixed _ _ _ is))))))).is)
    c.put-4.ensures
