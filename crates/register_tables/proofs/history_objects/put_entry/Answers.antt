use Rattle.std.proofs.Common.{◌≡◌, ◌∙◌, ℕ, List, [], ◌∷◌, ap, codes, subst}
use Rattle.cwr_call.specs.CallValue.{CallValue}
use Rattle.cwr_call.specs.declared.transaction_fault.Fault.{Fault}
use Rattle.register_tables.specs.HistoryJson.{faults_data, other_members}
use Rattle.register_tables.specs.JsonValues.{count_data, value_tokens, Adds}
use Rattle.register_tables.proofs.JsonObjects.{groups, named, object_of, written}
use Rattle.serde_json.specs.Data.{Data}
use Rattle.register_tables.proofs.history_objects.put_entry.Goals as goal

pub returns : goal.returns
returns g c =
    let faults : Data = faults_data c.args.entry.now.call.faults in
    let same : c.faults.result.now ≡ c.args.entry.now.call.faults = c.faults.ensures.value ∙ ap (λ (call : CallValue). call.faults) c.call.ensures in
    let first : List (List ℕ × Data) = (codes "entry", count_data c.args.index) ∷ [] in
    let others : List (List ℕ × Data) = other_members c.args.entry.now in
    object_of c.args.out.now c.begin_object.new.self c.put_others.new.out c.end_object.new.self
    ((codes "entry", count_data c.args.index) ∷ (codes "faults", faults) ∷ others)
    (written c.in_ok-begin_object.ensures.ok c.in_ok-begin_object.ensures.room.0)
    (groups c.begin_object.new.self c.put_members.new.out c.put_others.new.out first ((codes "faults", faults) ∷ others) c.in_ok-put_members.ensures
    (groups c.put_members.new.out c.put_faults.new.out c.put_others.new.out ((codes "faults", faults) ∷ []) others
    (named c.put_members.new.out c.key.new.self c.put_faults.new.out (codes "faults") faults (written c.in_ok-key.ensures.ok c.in_ok-key.ensures.room.0)
    (subst (λ (fs : List Fault). Adds c.key.new.self c.put_faults.new.out (value_tokens (faults_data fs))) same c.in_ok-put_faults.ensures))
    c.in_ok-put_others.ensures))
    (written c.in_ok-end_object.ensures.ok c.in_ok-end_object.ensures.room.0)
