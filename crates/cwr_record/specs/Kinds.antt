-- The codes of kinds: the record types that two kinds of a record have, and the status of a transaction.
use Rattle.std.specs.Prelude.{ℕ, List, Option, Some, None, codes, if◌then◌else◌}
use Rattle.std.specs.Str.{bytes_eq}
use Rattle.cwr_record.specs.declared.works.WorkKind.{WorkKind}
use Rattle.cwr_record.specs.declared.works.WorkKind.TheVariants.{Nwr, Rev}
use Rattle.cwr_record.specs.declared.status.Status.{Status}
use Rattle.cwr_record.specs.declared.status.Status.TheVariants.{Accepted, Duplicate, Conflict, Rejected}
use Rattle.cwr_record.specs.declared.publishers.PublisherKind.{PublisherKind}
use Rattle.cwr_record.specs.declared.publishers.PublisherKind.TheVariants.{Spu, Opu}
use Rattle.cwr_record.specs.declared.writers.WriterKind.{WriterKind}
use Rattle.cwr_record.specs.declared.writers.WriterKind.TheVariants.{Swr, Owr}

-- the record type of a registration: NWR for a new work, REV for a revision
abbrev pub work_kind_code : WorkKind → List ℕ
work_kind_code Nwr = codes "NWR"
work_kind_code Rev = codes "REV"

-- the registration that a record type names; `None` for any other record type
abbrev pub work_kind_named : List ℕ → Option WorkKind
work_kind_named code =
    if bytes_eq code (codes "NWR") then Some Nwr
    else if bytes_eq code (codes "REV") then Some Rev
    else None

-- the record type of a publisher: SPU where the submitter controls it, OPU for another one
abbrev pub publisher_kind_code : PublisherKind → List ℕ
publisher_kind_code Spu = codes "SPU"
publisher_kind_code Opu = codes "OPU"

-- the record type of a writer: SWR where the submitter controls them, OWR for another one
abbrev pub writer_kind_code : WriterKind → List ℕ
writer_kind_code Swr = codes "SWR"
writer_kind_code Owr = codes "OWR"

-- the two letters of a Transaction Status
abbrev pub status_text : Status → List ℕ
status_text Accepted = codes "AS"
status_text Duplicate = codes "DU"
status_text Conflict = codes "CO"
status_text Rejected = codes "RJ"

-- the status that two letters name; `None` for other letters
abbrev pub status_named : List ℕ → Option Status
status_named code =
    if bytes_eq code (codes "AS") then Some Accepted
    else if bytes_eq code (codes "DU") then Some Duplicate
    else if bytes_eq code (codes "CO") then Some Conflict
    else if bytes_eq code (codes "RJ") then Some Rejected
    else None
