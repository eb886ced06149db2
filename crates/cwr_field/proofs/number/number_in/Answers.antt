use Rattle.std.proofs.Common.{arith, rules}
use Rattle.cwr_field.proofs.lemmas.DigitSteps.{spells_more, below_power}
use Rattle.cwr_field.proofs.number.number_in.Goals as goal

pub overflow_mul-number : goal.overflow_mul-number
overflow_mul-number c = omega (arith, below_power c.loop-byte.byte-index (omega arith))

pub overflow_add-number : goal.overflow_add-number
overflow_add-number c = omega (arith, below_power c.loop-byte.byte-index (omega arith))

pub loop-byte-preserved : goal.loop-byte-preserved
loop-byte-preserved c = spells_more _ _ _ _ (omega arith) (search rules) (search rules) c.loop-byte.invariant
