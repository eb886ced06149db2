use Rattle.std.proofs.Common.{◌≡◌, ◌++◌, ◌∷◌, drop, map, false}
use Rattle.std.specs.Str.Lines.{lines}
use Rattle.serde_json.specs.View.{items_of}
use Rattle.serde_json.specs.Written.{items_text}
use Rattle.report_json.specs.Json.{finding_data}
use Rattle.cwr_report.specs.Walks.{IsWalk}
use Rattle.report_json.proofs.json_report.put_findings.Given as goal

-- what is written and what is left make the whole, and the walk goes over the file's lines
abbrev pub invariant-loop-finding : goal.invariant-loop-finding
invariant-loop-finding l = record {
  written :
      l.out.items ++ items_text l.later (items_of (map (finding_data (lines l.bytes)) (drop l.finding-index l.findings)))
      ≡ l.fn.out.items ++ 91 ∷ items_text false (items_of (map (finding_data (lines l.bytes)) l.fn.findings));
  walk : IsWalk l.walk (lines l.bytes) l.walk.passed;
}
