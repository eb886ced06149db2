use Rattle.std.proofs.Common.{rules}
use Rattle.atomic_file.proofs.Synced.{synced_still}
use Rattle.atomic_file.proofs.keeping.keep_synced.Goals as goal

pub replace_chunks-requires-clause-settled : goal.replace_chunks-requires-clause-settled
replace_chunks-requires-clause-settled g c = search rules

pub returns-in-Ok-clause-any_moment : goal.returns-in-Ok-clause-any_moment
returns-in-Ok-clause-any_moment g c = search rules

pub returns-in-Ok-clause-whole : goal.returns-in-Ok-clause-whole
returns-in-Ok-clause-whole g c = search rules

pub returns-in-Err-clause-any_moment : goal.returns-in-Err-clause-any_moment
returns-in-Err-clause-any_moment g c = search rules

pub returns-in-Err-clause-whole : goal.returns-in-Err-clause-whole
returns-in-Err-clause-whole g c = search rules

pub returns-in-Err-clause-withheld : goal.returns-in-Err-clause-withheld
returns-in-Err-clause-withheld g c = search rules

pub returns-in-Err-clause-dropped : goal.returns-in-Err-clause-dropped
returns-in-Err-clause-dropped g c = search rules

pub returns-in-Ok-clause-each : goal.returns-in-Ok-clause-each
returns-in-Ok-clause-each g c = search rules

pub name_followers-requires : goal.name_followers-requires
name_followers-requires g c = record { synced = synced_still _ _ _ (λ s synced. synced) c.in-Ok.ensures.kept c.requires.synced }

pub returns-in-Ok-clause-there : goal.returns-in-Ok-clause-there
returns-in-Ok-clause-there g c = search rules
