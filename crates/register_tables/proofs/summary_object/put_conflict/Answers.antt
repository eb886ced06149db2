use Rattle.register_tables.proofs.summary_object.put_conflict.Goals as goal

pub returns : goal.returns
returns g c = c.put_object.ensures
