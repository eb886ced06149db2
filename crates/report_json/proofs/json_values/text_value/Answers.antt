use Rattle.std.proofs.Common.{rules}
use Rattle.serde_json.specs.declared.value.Value.{the_lemmas}
use Rattle.report_json.proofs.json_values.text_value.Goals as goal

pub returns : goal.returns
returns c = search (rules, the_lemmas)
