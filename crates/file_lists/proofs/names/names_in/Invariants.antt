use Rattle.std.proofs.Common.{◌≡◌, ◌+◌, ◌++◌, map, length}
use Rattle.file_lists.specs.FileList.{entries, end_byte, first_fault}
use Rattle.file_lists.proofs.names.names_in.Given as goal

-- the names so far and those of the rest are the list's, and its first fault is that of the rest
abbrev pub invariant-loop-rest : goal.invariant-loop-rest
invariant-loop-rest l =
    (map (λ name. name.now) l.names.items ++ entries (end_byte l.end) l.rest ≡ entries (end_byte l.end) l.text)
    × (first_fault 1 (entries (end_byte l.end) l.text) ≡ first_fault (length l.names.items + 1) (entries (end_byte l.end) l.rest))

abbrev pub decreases-loop-rest : goal.decreases-loop-rest
decreases-loop-rest l = length l.rest
