use Rattle.std.proofs.Common.{◌≡◌, ◌+◌, ◌-◌, ◌≤◌, false, vec_len}
use Rattle.std.specs.Io.KnownBytes.{Consumes}
use Rattle.byte_streams.proofs.reading.read_file.Given as goal

-- what was read is the text so far, at least a byte a read but for the last one
abbrev pub invariant-loop-buffer : goal.invariant-loop-buffer
invariant-loop-buffer g l = record {
  going : g.R.Source.has_failed l.reader ≡ false;
  read : Consumes (g.R.Source.left l.fn.reader) (g.R.Source.left l.reader) l.text.items;
  counted : g.R.Source.reads l.reader ≤ g.R.Source.reads l.fn.reader + vec_len l.text;
  few : g.R.Source.reads l.reader ≤ g.R.Source.reads l.fn.reader + l.limit + 1;
}

abbrev pub decreases-loop-buffer : goal.decreases-loop-buffer
decreases-loop-buffer g l = l.limit + 1 - vec_len l.text
