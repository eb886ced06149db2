use Rattle.std.proofs.Common.{rules}
use Rattle.work_registry.proofs.reply.Reply.work.Goals as goal

pub returns-in-Rejected : goal.returns-in-Rejected
returns-in-Rejected c = search rules
