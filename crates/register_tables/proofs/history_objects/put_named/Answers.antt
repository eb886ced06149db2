use Rattle.register_tables.proofs.history_objects.put_named.Goals as goal

pub returns : goal.returns
returns g c = c.put_object.ensures
