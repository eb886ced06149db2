use Rattle.std.proofs.Common.{rules}
use Rattle.cwr_acknowledgement.proofs.messages.message_text.Goals as goal

pub returns-in-6-clause-text : goal.returns-in-6-clause-text
returns-in-6-clause-text c = search rules
