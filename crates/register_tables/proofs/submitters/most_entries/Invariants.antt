use Rattle.std.proofs.Common.{◌≡◌, [], drop, take}
use Rattle.std.specs.List.{fold}
use Rattle.register_tables.specs.Summary.{entries_ahead, placed}
use Rattle.register_tables.proofs.submitters.most_entries.Given as goal

-- what is placed and what is left make the whole
abbrev pub invariant-loop-one : goal.invariant-loop-one
invariant-loop-one g l =
    fold (λ top one. take 10 (placed entries_ahead one top)) l.top.items (drop l.one-index l.one-items) ≡ fold (λ top one. take 10 (placed entries_ahead one top)) [] l.one-items
