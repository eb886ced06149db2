use Rattle.std.proofs.Common.{◌≡◌, ◌++◌, length, take}
use Rattle.json.specs.Print.{escape}
use Rattle.report_json.specs.Json.{latin}
use Rattle.report_json.proofs.json_strings.put_each.Given as goal

-- what is written and what is left make the whole, behind what was there
abbrev pub invariant-loop-kept : goal.invariant-loop-kept
invariant-loop-kept l = record {
  written : l.out.items ++ escape (latin l.rest) ≡ l.fn.out.items ++ escape (latin l.fn.bytes);
  front : take (length l.fn.out.items) l.out.items ≡ l.fn.out.items;
}

abbrev pub decreases-loop-kept : goal.decreases-loop-kept
decreases-loop-kept l = length l.rest
