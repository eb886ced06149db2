use Rattle.std.proofs.Common.{length}
use Rattle.std.specs.Io.KnownBytes.{append_known}
use Rattle.std.specs.Str.Lines.{lines}
use Rattle.cwr_report.specs.Walks.{IsWalk}
use Rattle.check_pages.proofs.Writing.{AreWritten}
use Rattle.check_pages.proofs.check.write_findings.Given as goal

-- the findings before those that are left are counted, and written or gathered, and the walk goes over the file's lines
abbrev pub invariant-loop-finding : goal.invariant-loop-finding
invariant-loop-finding g l = record {
  text : AreWritten (lines l.bytes) l.findings l.left l.seen.counts l.before (g.W.Write.contents l.fn.to) (append_known (g.W.Write.contents l.to) l.rooms.out.items);
  walk : IsWalk l.walk (lines l.bytes) l.walk.passed;
}

abbrev pub decreases-loop-finding : goal.decreases-loop-finding
decreases-loop-finding g l = length l.left
