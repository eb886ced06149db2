use Rattle.std.proofs.lemmas.Result.{on_ok_weaker}
use Rattle.html_text.specs.Pieces.{shown}
use Rattle.html_text.proofs.lemmas.Chains.{last_fixed, then_fixed, then_part}
use Rattle.check_pages.specs.Faults.{expected_pieces}
use Rattle.check_pages.proofs.faults.put_expected.Goals as goal

pub returns : goal.returns
unfolding expected_pieces
returns g c =
    on_ok_weaker c.put-2.result
    (λ is.
    (then_fixed _ _ _ _ _ c.in_ok-put.ensures
    (then_part _ _ _ (shown c.args.text.now) _ c.in_ok-put_shown.ensures
    (last_fixed _ _ _ is))).is)
    c.put-2.ensures
