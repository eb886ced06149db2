use Rattle.std.proofs.Common.{◌≡◌, count_by, nat_lt, take}
use Rattle.c_values.proofs.verifying.owned_count.Given as goal

-- those so far are counted
abbrev pub invariant-loop-owner : goal.invariant-loop-owner
invariant-loop-owner l = l.count ≡ count_by (λ owner. nat_lt owner l.files) (take l.owner-index l.owners)
