use Rattle.std.proofs.Common.{◌≡◌, ◌++◌, drop}
use Rattle.json.specs.Print.{escape}
use Rattle.report_json.proofs.json_strings.put_bytes.Given as goal

-- what is written and what is left make the whole
abbrev pub invariant-loop-byte : goal.invariant-loop-byte
invariant-loop-byte l = l.out.items ++ escape (drop l.byte-index l.bytes) ≡ l.fn.out.items ++ escape l.fn.bytes
