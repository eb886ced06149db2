use Rattle.std.proofs.Common.{◌≡◌, ◌++◌, drop, map}
use Rattle.serde_json.specs.View.{items_of}
use Rattle.serde_json.specs.Written.{compact_text, items_text}
use Rattle.cwr_remarks.specs.Json.{remark_data, remarks_data}
use Rattle.cwr_remarks.proofs.json_list.put_json_list.Given as goal

-- what is written and what is left make the whole
abbrev pub invariant-loop-remark : goal.invariant-loop-remark
invariant-loop-remark l =
    l.out.items ++ items_text l.later (items_of (map remark_data (drop l.remark-index l.remarks))) ≡ l.fn.out.items ++ compact_text (remarks_data l.fn.remarks)
