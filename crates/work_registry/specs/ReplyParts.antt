-- What a reply contains: a Transaction Status, a work and a version.
use Rattle.std.specs.Prelude.{ℕ, Option, Some, None}
use Rattle.cwr_record.specs.declared.status.Status.{Status}
use Rattle.cwr_record.specs.declared.status.Status.TheVariants as status
use Rattle.work_registry.specs.declared.reply.Reply.{Reply}
use Rattle.work_registry.specs.declared.reply.Reply.TheVariants.{Accepted, Duplicate, Conflict, Rejected}

-- the Transaction Status of a reply: AS, DU, CO or RJ
abbrev pub status_in : Reply → Status
status_in (Accepted work version) = status.Accepted
status_in (Duplicate work) = status.Duplicate
status_in (Conflict work) = status.Conflict
status_in Rejected = status.Rejected

-- the work that a reply names; `None` where the call is rejected
abbrev pub work_in : Reply → Option ℕ
work_in (Accepted work version) = Some work
work_in (Duplicate work) = Some work
work_in (Conflict work) = Some work
work_in Rejected = None

-- the version of an accepted claim; `None` for any other reply
abbrev pub version_in : Reply → Option ℕ
version_in (Accepted work version) = Some version
version_in (Duplicate work) = None
version_in (Conflict work) = None
version_in Rejected = None
