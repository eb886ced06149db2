use Rattle.std.proofs.Common.{◌≡◌, ◌++◌, drop, map}
use Rattle.json.specs.Tree.{items_tokens}
use Rattle.serde_json.specs.View.{items_of}
use Rattle.serde_json.specs.Written.{items_outline}
use Rattle.register_tables.specs.JsonValues.{value_tokens}
use Rattle.register_tables.specs.SummaryJson.{submitter_data, submitters_data}
use Rattle.register_tables.proofs.summary_object.put_submitters.Given as goal

-- what is written and what is left make the whole
abbrev pub invariant-loop-one : goal.invariant-loop-one
invariant-loop-one g l = record {
  tokens :
      l.out.tokens ++ items_tokens (items_outline (items_of (map submitter_data (drop l.one-index l.most))))
      ≡ l.fn.out.tokens ++ value_tokens (submitters_data l.fn.most);
  before : l.out.before ≡ l.fn.out.before;
}
