use Rattle.std.proofs.Common.{nat_lt, [], arith}
use Rattle.std.proofs.lemmas.Bool.{lt-ltb}
use Rattle.std.proofs.lemmas.Result.{on_ok_weaker}
use Rattle.html_text.proofs.lemmas.Chains.{last_part, then_fixed, then_number, when_so}
use Rattle.check_pages.specs.Faults.{next_pieces, count_pieces}
use Rattle.check_pages.proofs.faults.put_count.Goals as goal

pub returns : goal.returns
unfolding count_pieces
returns g c =
    on_ok_weaker c.put_next.result
    (λ is.
    (when_so (nat_lt 1 c.args.nth.total) _ _ _ [] (lt-ltb _ _ (omega arith))
    (then_fixed _ _ _ _ _ c.in_ok-put.ensures
    (then_number _ _ _ _ _ c.in_ok-put_number.ensures
    (then_fixed _ _ _ _ _ c.in_ok-put-2.ensures
    (then_number _ _ _ _ _ c.in_ok-put_number-2.ensures
    (last_part _ _ (next_pieces c.args.nth.letter c.args.nth.number c.args.nth.k c.args.nth.total) is)))))).is)
    c.put_next.ensures
