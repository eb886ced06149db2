use Rattle.std.proofs.Common.{◌≡◌, replicate, vec_len}
use Rattle.std.specs.Prelude.{vec_capacity}
use Rattle.ticket_core.specs.declared.ticket_lock.Phase.TheVariants.{Away}
use Rattle.ticket_core.proofs.ticket_lock.Lock.new.Given as goal

abbrev pub invariant-loop : goal.invariant-loop
invariant-loop g l = record {
  room : vec_capacity l.phases ≡ l.places;
  len : vec_len l.phases ≡ l.counter;
  phases : l.phases.items ≡ replicate l.counter Away;
}
