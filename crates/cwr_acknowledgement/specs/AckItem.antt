-- A transaction of the acknowledged file, and the registry's decision on it.
use Rattle.std.specs.Prelude.{ℕ, Bool, true, false, List, [], Option, if◌then◌else◌}
use Rattle.cwr_record.specs.declared.works.WorkKind.{WorkKind}
use Rattle.cwr_record.specs.declared.status.Status.{Status}
use Rattle.cwr_record.specs.declared.status.Status.TheVariants.{Accepted, Duplicate, Conflict, Rejected}
use Rattle.cwr_call.specs.declared.transaction_fault.Fault.{Fault}

-- one transaction of the acknowledged file with the registry's decision on it, as the acknowledgement needs them
pub record Item : Type 0 where
  -- its place in the acknowledged file: group id and transaction sequence
  pub group : ℕ
  pub sequence : ℕ
  -- what it submitted: its kind, the work's title, and the submitter's number of the work
  pub kind : WorkKind
  pub title : List ℕ
  pub number : List ℕ
  -- the decision
  pub status : Status
  -- `None` where the decision names no work, as that of a rejected transaction
  pub work : Option ℕ
  -- the faults for which it is rejected, in rising order
  pub faults : List Fault

-- the status is RJ, rejected
abbrev pub is_rejected : Status → Bool
is_rejected Rejected = true
is_rejected Accepted = false
is_rejected Duplicate = false
is_rejected Conflict = false

-- the faults that the acknowledgement reports: those of a rejected transaction, and none of any other
abbrev pub reported_faults : Item → List Fault
reported_faults item = if is_rejected item.status then item.faults else []
