use Rattle.std.proofs.Common.{length}
use Rattle.std.specs.Io.KnownBytes.{append_known}
use Rattle.std.specs.Str.Lines.{lines}
use Rattle.cwr_report.specs.Walks.{IsWalk}
use Rattle.check_pages.specs.RemarkSections.{remarks_pieces}
use Rattle.check_pages.proofs.Writing.{IsPart}
use Rattle.check_pages.proofs.check.write_remarks.Given as goal

-- what is written, what is gathered and what is left make the whole, and the walk goes over the file's lines
abbrev pub invariant-loop-remark : goal.invariant-loop-remark
invariant-loop-remark g l = record {
  text : IsPart (g.W.Write.contents l.fn.to) (append_known (g.W.Write.contents l.to) l.rooms.out.items) (remarks_pieces (lines l.bytes) l.before l.left) (remarks_pieces (lines l.bytes) 0 l.remarks);
  walk : IsWalk l.walk (lines l.bytes) l.walk.passed;
}

abbrev pub decreases-loop-remark : goal.decreases-loop-remark
decreases-loop-remark g l = length l.left
