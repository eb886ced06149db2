use Rattle.std.proofs.Common.{[], rules, ◌==◌}
use Rattle.std.proofs.lemmas.Bool.Decides.{nat_tests}
use Rattle.std.proofs.lemmas.Result.{on_ok_weaker}
use Rattle.html_text.proofs.lemmas.Chains.{last_part, then_fixed, then_part, when_not}
use Rattle.check_pages.specs.Facts.{rules_pieces, signs_pieces, fault_count, index_pieces}
use Rattle.check_pages.proofs.facts.put_index.Goals as goal

pub returns : goal.returns
unfolding index_pieces
returns g c =
    on_ok_weaker c.put_signs.result
    (λ is.
    (when_not (fault_count c.args.findings.now c.args.refused.now == 0) _ _ [] _ (search (nat_tests, rules))
    (then_fixed _ _ _ _ _ c.in_ok-put.ensures
    (then_part _ _ _ (rules_pieces c.args.findings.now c.args.refused.now) _ c.in_ok-put_rules.ensures
    (then_fixed _ _ _ _ _ c.in_ok-put-2.ensures
    (then_fixed _ _ _ _ _ c.in_ok-put-3.ensures
    (last_part _ _ signs_pieces is)))))).is)
    c.put_signs.ensures
