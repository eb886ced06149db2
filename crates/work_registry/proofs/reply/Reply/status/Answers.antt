use Rattle.std.proofs.Common.{rules}
use Rattle.work_registry.proofs.reply.Reply.status.Goals as goal

pub returns-in-Conflict : goal.returns-in-Conflict
returns-in-Conflict c = search rules
