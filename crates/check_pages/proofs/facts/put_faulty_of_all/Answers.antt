use Rattle.std.proofs.Common.{[], rules, ◌∷◌, ◌==◌}
use Rattle.std.proofs.lemmas.Bool.Decides.{nat_tests}
use Rattle.std.proofs.lemmas.Result.{on_ok_weaker}
use Rattle.html_text.specs.Pieces.{Fixed, Number}
use Rattle.html_text.specs.declared.fragment.Fragment.TheVariants.{Clean, FaultyEnd}
use Rattle.html_text.proofs.lemmas.Chains.{last_fixed, then_fixed, then_number, when_not}
use Rattle.check_pages.specs.Facts.{faulty_pieces}
use Rattle.check_pages.proofs.facts.put_faulty_of_all.Goals as goal

pub returns : goal.returns
unfolding faulty_pieces
returns g c =
    on_ok_weaker c.put-4.result
    (λ is.
    (when_not (c.args.faulty == 0) _ _ (Fixed Clean ∷ Number c.args.all ∷ Fixed FaultyEnd ∷ []) _ (search (nat_tests, rules))
    (then_fixed _ _ _ _ _ c.in_ok-put-2.ensures
    (then_number _ _ _ _ _ c.in_ok-put_number-2.ensures
    (then_fixed _ _ _ _ _ c.in_ok-put-3.ensures
    (then_number _ _ _ _ _ c.in_ok-put_number-3.ensures
    (last_fixed _ _ _ is)))))).is)
    c.put-4.ensures
