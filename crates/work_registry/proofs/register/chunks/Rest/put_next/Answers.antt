use Rattle.std.proofs.Common.{rules}
use Rattle.work_registry.proofs.RegisterInChunks.{entry_next}
use Rattle.work_registry.proofs.register.chunks.Rest.put_next.Goals as goal

pub returns-in-Some-clause-text : goal.returns-in-Some-clause-text
returns-in-Some-clause-text g c =
    entry_next c.args.held.now.items c.put_head-self-inside.new.held.items c.args.self.now c.self.inside.next c.put_head-self-inside.result c.self.inside.index
    c.self.inside.entries.now c.in-Some.rest.now c.in-Some.entry.now (search rules) (search rules) (search rules) c.put_head-self-inside.ensures.text
