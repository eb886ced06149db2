use Rattle.registry_desk.proofs.Worlds.{run_made}
use Rattle.registry_desk.proofs.laws.grows_by_its_own_calls.Goals as goal

pub returns : goal.returns
returns c = run_made
