use Rattle.std.proofs.Common.{rules}
use Rattle.registry_desk.proofs.words.place_after.Goals as goal

pub returns : goal.returns
returns c = search rules
