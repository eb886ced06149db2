use Rattle.std.proofs.Common.{◌≡◌, ◌≤◌, ◌++◌, ◌-◌, ℕ}
use Rattle.cwr_remarks.specs.Remarks.{remarks_to}
use Rattle.cwr_remarks.specs.Typed.{left, IsTyped}
use Rattle.cwr_remarks.proofs.remarking.push_remarks_to.Given as goal

-- what is found and what is left make the same, wherever the end is; and the line that was taken has its type
abbrev pub invariant-loop-number : goal.invariant-loop-number
invariant-loop-number g l = record {
  found : (end : ℕ) → l.last ≤ end → l.found.items ++ remarks_to end l.number (left l.next l.rest) ≡ l.fn.found.items ++ remarks_to end l.first (left l.taken l.fn.behind);
  typed : IsTyped l.next;
  inside : l.number ≤ l.last;
}

abbrev pub decreases-loop-number : goal.decreases-loop-number
decreases-loop-number g l = l.last - l.number
