use Rattle.registry_desk.proofs.StepEvents.{shows_lawful_lock}
use Rattle.registry_desk.proofs.laws.shows_a_lawful_lock.Goals as goal

pub returns : goal.returns
returns c = shows_lawful_lock
