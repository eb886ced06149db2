use Rattle.std.proofs.lemmas.Result.{on_ok_weaker}
use Rattle.html_text.proofs.lemmas.Chains.{last_fixed, then_fixed, then_part}
use Rattle.check_pages.specs.Facts.{day_pieces, time_pieces, submitter_pieces, header_pieces}
use Rattle.check_pages.proofs.header.put_header.Goals as goal

pub returns : goal.returns
unfolding header_pieces
returns g c =
    on_ok_weaker c.put-3.result
    (λ is.
    (then_part _ _ _ (submitter_pieces c.args.line.now) _ c.in_ok-put_submitter.ensures
    (then_fixed _ _ _ _ _ c.in_ok-put.ensures
    (then_part _ _ _ (day_pieces c.args.line.now) _ c.in_ok-put_day.ensures
    (then_fixed _ _ _ _ _ c.in_ok-put-2.ensures
    (then_part _ _ _ (time_pieces c.args.line.now) _ c.in_ok-put_time.ensures
    (last_fixed _ _ _ is)))))).is)
    c.put-3.ensures
