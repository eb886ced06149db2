use Rattle.std.proofs.Common.{◌≡◌, ◌+◌, ◌-◌, ◌≤◌, ℕ, List, false, cond, length}
use Rattle.byte_streams.specs.Window.{HasRead}
use Rattle.byte_streams.proofs.window.Window.fill_line.Given as goal

-- what was read so far is one piece
abbrev pub invariant-loop-self : goal.invariant-loop-self
invariant-loop-self g l = record {
  going : g.R.Source.has_failed l.reader ≡ false;
  read : (chunk : List ℕ) × HasRead l.fn.self l.self (g.R.Source.left l.fn.reader) (g.R.Source.left l.reader) chunk;
  seen : l.seen ≤ length l.self.held;
  counted : g.R.Source.reads l.reader + l.fn.self.read ≤ g.R.Source.reads l.fn.reader + l.self.read + 1;
  each : l.self.is_ended ≡ false → g.R.Source.reads l.reader + l.fn.self.read ≤ g.R.Source.reads l.fn.reader + l.self.read;
}

abbrev pub decreases-loop-self : goal.decreases-loop-self
decreases-loop-self g l = cond l.self.is_ended 0 (l.self.limit + 1 - l.self.read)
