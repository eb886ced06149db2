-- The numbers of an outcome.
use Rattle.std.specs.Prelude.{ℕ}
use Rattle.cwr_engine.specs.declared.outcome.FileOutcome.{FileOutcome}
use Rattle.cwr_engine.specs.declared.outcome.FileOutcome.TheVariants.{Acked, Refused, Stopped}
use Rattle.cwr_engine.specs.declared.outcome.Why.{Why}
use Rattle.cwr_engine.specs.declared.outcome.Why.TheVariants.{Memory, Full, Read, TooLong, Gate, Write}
use Rattle.c_values.specs.declared.outcome.Outcome.{Outcome}

-- the number of the cause for which a job stopped
abbrev pub cause_of : Why → ℕ
cause_of Memory = 1
cause_of Full = 2
cause_of Read = 3
cause_of TooLong = 4
cause_of Gate = 5
cause_of (Write sent) = 6

-- the number of bytes that were written before a write failed; 0 for any other cause
abbrev pub bytes_sent : Why → ℕ
bytes_sent Memory = 0
bytes_sent Full = 0
bytes_sent Read = 0
bytes_sent TooLong = 0
bytes_sent Gate = 0
bytes_sent (Write sent) = sent

-- the numbers of an outcome; those that it does not have are 0
abbrev pub numbers_of : FileOutcome → Outcome
numbers_of (Acked transactions) = record { kind = 0; fault = 0; line = 0; transactions = transactions; cause = 0; sent = 0 }
numbers_of (Refused number line) = record { kind = 1; fault = number; line = line; transactions = 0; cause = 0; sent = 0 }
numbers_of (Stopped handed why) = record { kind = 2; fault = 0; line = 0; transactions = handed; cause = cause_of why; sent = bytes_sent why }
