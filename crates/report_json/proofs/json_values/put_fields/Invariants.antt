use Rattle.std.proofs.Common.{◌≡◌, ◌++◌, drop}
use Rattle.std.specs.List.{flat_map}
use Rattle.serde_json.specs.View.{items_of}
use Rattle.serde_json.specs.Written.{compact_text, items_text}
use Rattle.report_json.specs.Json.{spot_data, fields_data}
use Rattle.report_json.proofs.json_values.put_fields.Given as goal

-- what is written and what is left make the whole
abbrev pub invariant-loop-spot : goal.invariant-loop-spot
invariant-loop-spot l =
    l.out.items ++ items_text l.later (items_of (flat_map (spot_data l.line) (drop l.spot-index l.spots))) ≡ l.fn.out.items ++ compact_text (fields_data l.fn.line l.fn.spots)
