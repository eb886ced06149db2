use Rattle.work_registry.proofs.RegisterLines.{first_found}
use Rattle.work_registry.proofs.register.lines.first_end.Goals as goal

pub returns : goal.returns
returns c = first_found c.args.text.now c.memchr.result c.memchr.ensures

pub returns-then-ends_after_head : goal.returns-then-ends_after_head
returns-then-ends_after_head c = first_found c.args.text.now _ (c.ends_after_head.ensures c.if-ends_after_head.true)
