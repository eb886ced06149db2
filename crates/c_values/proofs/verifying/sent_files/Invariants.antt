use Rattle.std.proofs.Common.{◌≡◌, take}
use Rattle.c_values.specs.Verified.{sent_in}
use Rattle.c_values.proofs.verifying.sent_files.Given as goal

-- those so far are there
abbrev pub invariant-loop-given : goal.invariant-loop-given
invariant-loop-given l = l.sent.items ≡ sent_in (take l.given-index l.files)
