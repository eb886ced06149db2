use Rattle.purvilgo_c.proofs.handle.Handle.TheSendSync.{the_send}
use Rattle.purvilgo_c.proofs.laws.handles_are_send.Goals as goal

pub returns : goal.returns
returns c = the_send
