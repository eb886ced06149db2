use Rattle.std.proofs.Common.{set, ap, refl}
use Rattle.atomic_file.proofs.memory.Shelf.undo_follower.Goals as goal

pub returns : goal.returns
returns g c = record {
  slot = c.index_mut.result.now;
  there = c.index_mut.ensures.value;
  slots = ap (λ slot. set c.args.self.now.followers.items c.args.at slot) c.undo.ensures;
  same = refl;
}
