use Rattle.std.proofs.Common.{arith, append-nil}
use Rattle.cwr_acknowledgement.proofs.Puts.{then_whole, size_after}
use Rattle.cwr_acknowledgement.proofs.acknowledgement.send_all.Goals as goal

pub write_held-requires-clause-size : goal.write_held-requires-clause-size
write_held-requires-clause-size g c =
    let size = size_after _ _ _ _ _ _ c.in_ok-put_all.ensures.put in
    omega (arith, size, c.requires.size, c.requires.few)

pub returns-clause-put : goal.returns-clause-put
returns-clause-put g c =
    then_whole c.write_held.result _ _ _ _ _ _ _ 0 _ _ _ _ c.in_ok-put_all.ensures.put c.write_held.ensures.put (omega arith) (append-nil _)
