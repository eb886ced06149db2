use Rattle.std.proofs.Common.{rules}
use Rattle.work_registry.proofs.reply.Reply.version.Goals as goal

pub returns-in-Accepted : goal.returns-in-Accepted
returns-in-Accepted c = search rules
