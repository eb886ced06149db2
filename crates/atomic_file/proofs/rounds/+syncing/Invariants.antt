use Rattle.std.proofs.Common.{◌+◌, ◌*◌, ◌-◌}
use Rattle.atomic_file.proofs.rounds.+syncing.Given as goal

-- there are so many threads to come
abbrev pub decreases-sync_beside : goal.decreases-sync_beside
decreases-sync_beside g l = 2 * (16 - l.threads)

abbrev pub decreases-join+arg2 : goal.decreases-join+arg2
decreases-join+arg2 g l = 2 * (15 - l.threads) + 1
