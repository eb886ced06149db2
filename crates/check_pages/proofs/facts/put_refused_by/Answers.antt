use Rattle.std.proofs.lemmas.Result.{on_ok_weaker}
use Rattle.html_text.proofs.lemmas.Chains.{last_fixed, then_fixed, then_part}
use Rattle.check_pages.specs.Facts.{refused_by_pieces}
use Rattle.check_pages.specs.Faults.{rule_pieces}
use Rattle.check_pages.proofs.facts.put_refused_by.Goals as goal

pub returns : goal.returns
unfolding refused_by_pieces
returns g c =
    on_ok_weaker c.put-3.result
    (λ is.
    (then_fixed _ _ _ _ _ c.in_ok-put.ensures
    (then_part _ _ _ (rule_pieces 70 c.args.number) _ c.in_ok-put_rule.ensures
    (then_fixed _ _ _ _ _ c.in_ok-put-2.ensures
    (then_part _ _ _ (rule_pieces 70 c.args.number) _ c.in_ok-put_rule-2.ensures
    (last_fixed _ _ _ is))))).is)
    c.put-3.ensures
