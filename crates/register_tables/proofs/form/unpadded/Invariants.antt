use Rattle.std.proofs.Common.{◌≡◌, length}
use Rattle.register_tables.specs.Fields.{unpadded}
use Rattle.register_tables.proofs.form.unpadded.Given as goal

-- what is left has the same text without the blanks behind it
abbrev pub invariant-loop-rest : goal.invariant-loop-rest
invariant-loop-rest l = unpadded l.rest ≡ unpadded l.fn.text

abbrev pub decreases-loop-rest : goal.decreases-loop-rest
decreases-loop-rest l = length l.rest
