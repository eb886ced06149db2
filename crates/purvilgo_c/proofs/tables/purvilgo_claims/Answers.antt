use Rattle.purvilgo_c.proofs.tables.purvilgo_claims.Goals as goal

pub returns-clause-told : goal.returns-clause-told
returns-clause-told c = c.write_table.ensures.told
