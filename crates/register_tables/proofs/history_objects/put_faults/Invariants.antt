use Rattle.std.proofs.Common.{◌≡◌, ◌++◌, drop, map}
use Rattle.json.specs.Tree.{items_tokens}
use Rattle.serde_json.specs.View.{items_of}
use Rattle.serde_json.specs.Written.{items_outline}
use Rattle.register_tables.specs.HistoryJson.{fault_data, faults_data}
use Rattle.register_tables.specs.JsonValues.{value_tokens}
use Rattle.register_tables.proofs.history_objects.put_faults.Given as goal

-- what is written and what is left make the whole
abbrev pub invariant-loop-fault : goal.invariant-loop-fault
invariant-loop-fault g l = record {
  tokens :
      l.out.tokens ++ items_tokens (items_outline (items_of (map fault_data (drop l.fault-index l.faults))))
      ≡ l.fn.out.tokens ++ value_tokens (faults_data l.fn.faults);
  before : l.out.before ≡ l.fn.out.before;
}
