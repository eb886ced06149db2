use Rattle.std.proofs.Common.{rules, arith, ◌∙◌}
use Rattle.html_text.proofs.TrailingBlanks.{ended, none_left, one_less}
use Rattle.html_text.proofs.pieces.without_trailing.Goals as goal
use Rattle.html_text.proofs.pieces.without_trailing.Goals.{then-loop-end-test+else-text-end-eq32, else-loop-end-test}

pub loop-end-preserved : goal.loop-end-preserved
loop-end-preserved c =
    (omega (arith, c.loop-end.invariant.0), one_less c.args.text.now c.loop-end.end (omega arith) c.loop-end.invariant.0 (search rules) ∙ c.loop-end.invariant.1)

pub returns-clause-value : goal.returns-clause-value
returns-clause-value c =
    elim c.loop-end-test.branch [
      | then-loop-end-test+else-text-end-eq32 w ↦ ended c.args.text.now c.loop-end.end (omega arith) c.loop-end.invariant.0 (search rules) ∙ c.loop-end.invariant.1
      | else-loop-end-test w ↦ none_left c.args.text.now c.loop-end.end (omega arith) ∙ c.loop-end.invariant.1
    ]
