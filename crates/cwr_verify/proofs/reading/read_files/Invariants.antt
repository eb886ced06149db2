use Rattle.std.proofs.Common.{take}
use Rattle.cwr_verify.specs.Read.{AreReadFrom}
use Rattle.cwr_verify.proofs.reading.read_files.Given as goal

-- each file so far is read
abbrev pub invariant-loop-file : goal.invariant-loop-file
invariant-loop-file g l = AreReadFrom (take l.file-index l.files) l.all.items
