use Rattle.serde_json.specs.Data.{object}
use Rattle.serde_json.specs.View.{items_of}
use Rattle.report_json.specs.Json.{field_members}
use Rattle.report_json.specs.JsonText.{field_text}
use Rattle.report_json.proofs.JsonText.{field_is, item_then}
use Rattle.report_json.proofs.json_values.put_spot.Goals as goal

pub returns : goal.returns
returns c ds =
    rw c.in-Some.is
    (item_then c.args.out.now.items c.put_comma.new.out.items c.put_field.new.out.items (field_text c.args.line.now c.in-Some.spot) c.args.later
    (object (field_members c.args.line.now c.in-Some.spot)) (items_of ds)
    c.in_ok-put_comma.ensures c.in_ok-put_field.ensures (field_is c.args.line.now c.in-Some.spot))
