use Rattle.std.proofs.Common.{◌∙◌}
use Rattle.serde_json.specs.View.{view}
use Rattle.report_json.proofs.json_report.json_text_with.Goals as goal

pub returns : goal.returns
returns c = c.json_text_with_text.ensures.value (view c.args.more) (c.as_bytes.ensures.value ∙ c.in_ok-value.ensures.text c.requires)
