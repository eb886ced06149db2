use Rattle.std.proofs.Common.{sym, subst, arith}
use Rattle.std.specs.Prelude.{slice_set, replicate, true, false}
use Rattle.ticket_core.specs.ArrayLock.{IsLawfulArrayState}
use Rattle.ticket_core.proofs.lemmas.ArrayStates.{new_array_lawful}
use Rattle.ticket_core.proofs.array_lock.ArrayLock.new.Goals as goal

pub invariant_of-result : goal.invariant_of-result
invariant_of-result g c = subst (λ ps. IsLawfulArrayState (record { next = 0; flags = slice_set (replicate 64 false) 0 true; phases = ps })) (sym c.loop.invariant.phases) (new_array_lawful c.loop.counter (omega arith))
