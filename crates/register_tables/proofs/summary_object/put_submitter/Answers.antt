use Rattle.register_tables.proofs.summary_object.put_submitter.Goals as goal

pub returns : goal.returns
returns g c = c.put_object.ensures
