use Rattle.std.proofs.Common.{◌≡◌, ◌++◌, drop}
use Rattle.std.specs.Prelude.{string_bytes}
use Rattle.report_json.specs.Json.{latin}
use Rattle.report_json.proofs.json_values.latin.Given as goal

-- what is written and what is left make the whole
abbrev pub invariant-loop-byte : goal.invariant-loop-byte
invariant-loop-byte l = string_bytes l.text ++ latin (drop l.byte-index l.bytes) ≡ latin l.fn.bytes
