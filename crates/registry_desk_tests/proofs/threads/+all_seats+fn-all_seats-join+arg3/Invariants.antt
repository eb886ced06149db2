use Rattle.std.proofs.Common.{◌+◌, ◌*◌}
use Rattle.registry_desk_tests.proofs.threads.+all_seats+fn-all_seats-join+arg3.Given as goal

abbrev pub decreases-all_seats : goal.decreases-all_seats
decreases-all_seats g l = 2 * l.opening.view.left

abbrev pub decreases-join+arg3 : goal.decreases-join+arg3
decreases-join+arg3 g l = 2 * l.opening.view.left + 1
