use Rattle.std.proofs.Common.{◌∙◌}
use Rattle.cwr_remarks.specs.Json.{remarks_data}
use Rattle.cwr_remarks.proofs.checks.json_with_remarks.Goals as goal

pub returns-in-None : goal.returns-in-None
returns-in-None c =
    let written = rw c.new-told.ensures.items at c.in_ok-put_json_list.ensures in
    rw c.in-None.is (c.json_text_with_text.ensures.value (remarks_data c.args.found.now) (c.deref.ensures.value ∙ written))

pub returns : goal.returns
returns c =
    let written = rw c.new-told.ensures.items at c.in_ok-put_json_list.ensures in
    rw c.in-Some.is (c.json_text_of_file.ensures.value (remarks_data c.args.found.now) (c.deref-in-Some.ensures.value ∙ written))
