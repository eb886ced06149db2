use Rattle.std.proofs.Common.{◌≡◌, ◌++◌, ◌≤◌, length, drop}
use Rattle.cwr_field.specs.Number.{number_text}
use Rattle.cwr_field.proofs.number.fill_digits.Given as goal

-- the last digits stand, and the rest is still to be written in front of them
abbrev pub invariant-loop-end : goal.invariant-loop-end
invariant-loop-end l = record {
  len : length l.buffer ≡ length l.fn.buffer;
  within : l.end ≤ length l.buffer;
  text : number_text l.end l.rest ++ drop l.end l.buffer ≡ number_text (length l.fn.buffer) l.value;
}

abbrev pub decreases-loop-end : goal.decreases-loop-end
decreases-loop-end l = l.end
