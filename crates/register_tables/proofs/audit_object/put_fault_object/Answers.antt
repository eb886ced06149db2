use Rattle.register_tables.proofs.audit_object.put_fault_object.Goals as goal

pub returns : goal.returns
returns g c = c.put_object.ensures
