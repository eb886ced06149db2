use Rattle.registry_desk.proofs.Worlds.{run_keeps}
use Rattle.registry_desk.proofs.laws.stays_a_history.Goals as goal

pub returns : goal.returns
returns c = run_keeps c.histories_grow.ensures.one_more
