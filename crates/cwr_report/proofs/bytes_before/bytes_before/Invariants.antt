use Rattle.std.proofs.Common.{◌≡◌, ◌≤◌, ◌+◌, ◌-◌, length}
use Rattle.cwr_report.specs.BytesBefore.{bytes_before}
use Rattle.cwr_report.proofs.bytes_before.bytes_before.Given as goal

-- what was passed and what is left make the whole
abbrev pub invariant-loop : goal.invariant-loop
invariant-loop l = record {
  inside : length l.rest ≤ length l.bytes;
  passed : (length l.bytes - length l.rest) + bytes_before (l.index - l.counter) l.rest ≡ bytes_before l.index l.bytes;
}
