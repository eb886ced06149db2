use Rattle.std.proofs.Common.{◌≡◌, ℕ, ◌+◌, List, [], ◌∷◌, ◌++◌, length, ap, arith, length-append}
use Rattle.cwr_rules_tests.proofs.judging.taken.Goals as goal

pub loop-line-preserved : goal.loop-line-preserved
loop-line-preserved c =
    let lines = c.loop-line.invariant.0 in
    let line = c.in-Some-line.line.now in
    let rest = c.next-in-loop-line.new.self in
    let few = c.loop-line.invariant.1 in
    let here : length c.loop-line.line-iterator ≡ length (line ∷ rest) = ap (λ (xs : List (List ℕ)). length xs) c.in-Some-line.ensures.steps in
    let there : length (lines ++ line ∷ []) ≡ length lines + 1 = length-append lines (line ∷ []) in (
      lines ++ line ∷ [],
      omega arith,
      c.in_ok-take.ensures c.args.transaction.now.kind lines c.loop-line.invariant.2,
    )
