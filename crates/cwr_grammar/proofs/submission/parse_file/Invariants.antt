use Rattle.std.proofs.Common.{◌-◌, ◌≤◌, length}
use Rattle.cwr_grammar.specs.ReadUpTo.{IsReadUpTo}
use Rattle.cwr_grammar.specs.Spans.{Placed}
use Rattle.cwr_grammar.proofs.submission.parse_file.Given as goal

abbrev pub invariant-loop-line : goal.invariant-loop-line
invariant-loop-line g l = record {
  inside : l.at ≤ length l.bytes;
  read : IsReadUpTo (λ _. Placed l.bytes l.spans.items l.current l.at) l.reader l.bytes l.at;
}

abbrev pub decreases-loop-line : goal.decreases-loop-line
decreases-loop-line g l = length l.bytes - l.at
