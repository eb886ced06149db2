use Rattle.std.proofs.Common.{nat_lt, [], arith, ◌∷◌}
use Rattle.std.proofs.lemmas.Bool.{lt-ltb}
use Rattle.std.proofs.lemmas.Result.{on_ok_weaker}
use Rattle.html_text.specs.Pieces.{Fixed}
use Rattle.html_text.specs.declared.fragment.Fragment.TheVariants.{FaultSmallEnd}
use Rattle.html_text.proofs.lemmas.Chains.{last_fixed, then_fixed, then_number, then_part, when_so}
use Rattle.check_pages.specs.Faults.{rule_pieces, next_pieces}
use Rattle.check_pages.proofs.faults.put_next.Goals as goal

pub returns : goal.returns
unfolding next_pieces
returns g c =
    on_ok_weaker c.put-5.result
    (λ is.
    (when_so (nat_lt c.args.nth.k c.args.nth.total) _ _ _ (Fixed FaultSmallEnd ∷ []) (lt-ltb _ _ (omega arith))
    (then_fixed _ _ _ _ _ c.in_ok-put.ensures
    (then_part _ _ _ (rule_pieces c.args.nth.letter c.args.nth.number) _ c.in_ok-put_rule.ensures
    (then_fixed _ _ _ _ _ c.in_ok-put-2.ensures
    (then_number _ _ _ _ _ c.in_ok-put_number.ensures
    (then_fixed _ _ _ _ _ c.in_ok-put-3.ensures
    (then_part _ _ _ (rule_pieces c.args.nth.letter c.args.nth.number) _ c.in_ok-put_rule-2.ensures
    (last_fixed _ _ _ is)))))))).is)
    c.put-5.ensures
