use Rattle.std.proofs.Common.{◌≡◌, ◌+◌}
use Rattle.registry_desk_tests.proofs.threads.hand_in_all.Given as goal

abbrev pub invariant-loop-k : goal.invariant-loop-k
invariant-loop-k g l = record {
  desk : l.seat.desk ≡ l.initial.seat.desk;
  session : l.seat.view.session ≡ l.initial.seat.view.session;
  turns : l.seat.view.turns ≡ l.initial.seat.view.turns + l.k;
}
