use Rattle.std.proofs.Common.{map}
use Rattle.register_tables.specs.JsonValues.{shown_data}
use Rattle.register_tables.proofs.JsonObjects.{object_of, written}
use Rattle.register_tables.proofs.json_values.put_object.Goals as goal

pub returns : goal.returns
returns g c =
    object_of c.args.out.now c.begin_object.new.self c.put_members.new.out c.end_object.new.self
    (map (λ m. (m.0.now, shown_data m.1)) c.args.members.now)
    (written c.in_ok-begin_object.ensures.ok c.in_ok-begin_object.ensures.room.0)
    c.in_ok-put_members.ensures
    (written c.in_ok-end_object.ensures.ok c.in_ok-end_object.ensures.room.0)
