use Rattle.std.proofs.Common.{◌≡◌, length}
use Rattle.std.specs.List.{AllByRecursion}
use Rattle.cwr_acknowledgement.specs.Acknowledgement.{FitsFault}
use Rattle.cwr_file_tests.proofs.sent.thousand_faults.Given as goal

abbrev pub invariant-loop-sequence : goal.invariant-loop-sequence
invariant-loop-sequence l = record {
  fit : AllByRecursion FitsFault l.faults.items;
  count : length l.faults.items ≡ l.sequence;
}
