use Rattle.std.proofs.Common.{refl}
use Rattle.atomic_file.proofs.memory.Shelf.drop_follower.Goals as goal

pub returns : goal.returns
returns g c = record { slot = c.index_mut.result.now; there = c.index_mut.ensures.value; slots = refl; same = refl }
