use Rattle.std.proofs.lemmas.Result.{on_ok_weaker}
use Rattle.cwr_field.specs.Layout.{field}
use Rattle.html_text.specs.Pieces.{shown}
use Rattle.html_text.proofs.lemmas.Chains.{last_part, then_fixed, then_part}
use Rattle.check_pages.specs.Facts.{time_pieces}
use Rattle.check_pages.proofs.header.put_time.Goals as goal

pub returns : goal.returns
unfolding time_pieces
returns g c =
    on_ok_weaker c.put_part-3.result
    (λ is.
    (then_part _ _ _ (shown (field c.args.line.now 73 2)) _ c.in_ok-put_part.ensures
    (then_fixed _ _ _ _ _ c.in_ok-put.ensures
    (then_part _ _ _ (shown (field c.args.line.now 75 2)) _ c.in_ok-put_part-2.ensures
    (then_fixed _ _ _ _ _ c.in_ok-put-2.ensures
    (last_part _ _ (shown (field c.args.line.now 77 2)) is))))).is)
    c.put_part-3.ensures
