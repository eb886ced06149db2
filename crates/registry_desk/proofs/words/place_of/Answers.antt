use Rattle.std.proofs.Common.{rules}
use Rattle.registry_desk.proofs.words.place_of.Goals as goal

pub returns : goal.returns
returns c = search rules
