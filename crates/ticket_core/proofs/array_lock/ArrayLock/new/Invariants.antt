use Rattle.std.proofs.Common.{◌≡◌, replicate, vec_len}
use Rattle.std.specs.Prelude.{vec_capacity}
use Rattle.ticket_core.specs.declared.array_lock.ArrayPhase.TheVariants.{Away}
use Rattle.ticket_core.proofs.array_lock.ArrayLock.new.Given as goal

abbrev pub invariant-loop : goal.invariant-loop
invariant-loop g l = record {
  room : vec_capacity l.phases ≡ l.places;
  len : vec_len l.phases ≡ l.counter;
  phases : l.phases.items ≡ replicate l.counter Away;
}
