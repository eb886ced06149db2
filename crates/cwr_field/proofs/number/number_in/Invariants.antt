use Rattle.cwr_field.proofs.lemmas.DigitSteps.{Spells}
use Rattle.cwr_field.proofs.number.number_in.Given as goal

abbrev pub invariant-loop-byte : goal.invariant-loop-byte
invariant-loop-byte l = Spells l.bytes l.byte-index l.number
