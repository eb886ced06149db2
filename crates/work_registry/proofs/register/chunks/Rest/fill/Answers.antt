use Rattle.std.proofs.Common.{rules}
use Rattle.work_registry.proofs.RegisterInChunks.{fewer}
use Rattle.work_registry.proofs.register.chunks.Rest.fill.Goals as goal

pub loop-self-smaller : goal.loop-self-smaller
loop-self-smaller g c =
    fewer c.loop-self.held.items c.put_next.new.held.items c.loop-self.self c.put_next.new.self c.put_next.ensures.text (search rules)
