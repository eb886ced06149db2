use Rattle.std.proofs.Common.{◌≡◌, ◌++◌, drop}
use Rattle.report_texts.specs.Shown.{shown_text}
use Rattle.report_texts.proofs.shown.put_shown.Given as goal

-- what is written and what is left make the whole
abbrev pub invariant-loop-byte : goal.invariant-loop-byte
invariant-loop-byte g l = l.out.items ++ shown_text (drop l.byte-index l.bytes) ≡ l.fn.out.items ++ shown_text l.fn.bytes
