use Rattle.std.proofs.Common.{◌≡◌, vec_len}
use Rattle.std.specs.Prelude.{vec_capacity}
use Rattle.registry_desk.proofs.desk.all_sleepers.Given as goal

abbrev pub invariant-loop : goal.invariant-loop
invariant-loop g l = record {
  count : vec_len l.sleepers ≡ l.counter;
  room : vec_capacity l.sleepers ≡ 64;
}
