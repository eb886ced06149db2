use Rattle.std.proofs.Common.{◌≡◌, ◌+◌, ◌-◌, ◌≤◌, ℕ, List, [], false, true, cond, length}
use Rattle.std.specs.Io.KnownBytes.{Consumes, IsAtEnd}
use Rattle.byte_streams.proofs.window.Window.drain.Given as goal

-- so many bytes were read, and dropped
abbrev pub invariant-loop-self : goal.invariant-loop-self
invariant-loop-self g l = record {
  going : g.R.Source.has_failed l.reader ≡ false;
  read : (rest : List ℕ) × Consumes (g.R.Source.left l.fn.reader) (g.R.Source.left l.reader) rest × (l.self.read ≡ l.fn.self.read + length rest) × (l.fn.self.is_ended ≡ true → rest ≡ []);
  limit : l.self.limit ≡ l.fn.self.limit;
  within : l.self.read ≤ l.self.limit;
  at_end : l.self.is_ended ≡ true → IsAtEnd (g.R.Source.left l.reader);
  open_first : l.self.is_ended ≡ false → l.fn.self.is_ended ≡ false;
  counted : g.R.Source.reads l.reader + l.fn.self.read ≤ g.R.Source.reads l.fn.reader + l.self.read + 1;
  none : l.fn.self.is_ended ≡ true → g.R.Source.reads l.reader ≡ g.R.Source.reads l.fn.reader;
  each : l.self.is_ended ≡ false → g.R.Source.reads l.reader + l.fn.self.read ≤ g.R.Source.reads l.fn.reader + l.self.read;
}

abbrev pub decreases-loop-self : goal.decreases-loop-self
decreases-loop-self g l = cond l.self.is_ended 0 (l.self.limit + 1 - l.self.read)
