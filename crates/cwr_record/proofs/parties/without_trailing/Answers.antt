use Rattle.std.proofs.Common.{rules, arith, sym, ◌∙◌, ◌-◌, length, length-take}
use Rattle.cwr_record.proofs.TrailingBlanks.{without_trailing-take, without_trailing-same}
use Rattle.cwr_record.proofs.parties.without_trailing.Goals as goal

pub loop-text-preserved : goal.loop-text-preserved
loop-text-preserved c =
    let text = c.loop-text.text.now in
    (without_trailing-take text (omega arith) (search rules) ∙ c.loop-text.invariant.0, omega (arith, length-take (length text - 1) text))

pub returns-in_default-2-clause-value : goal.returns-in_default-2-clause-value
returns-in_default-2-clause-value c =
    sym (without_trailing-same c.loop-text.text.now (omega arith) (search rules)) ∙ c.loop-text.invariant.0
