-- The record types of CWR 2.2 that the profile carries along unread.
use Rattle.std.specs.Prelude.{ℕ, Bool, ◌||◌, List, Option, Some, None, codes, if◌then◌else◌}
use Rattle.std.specs.Str.{bytes_eq}
use Rattle.cwr_record.specs.declared.record_type.RecordType.{RecordType}
use Rattle.cwr_record.specs.declared.record_type.RecordType.TheVariants.{Carried}
use Rattle.cwr_remarks.specs.declared.remark.Remarked.{Remarked}
use Rattle.cwr_remarks.specs.declared.remark.Remarked.TheVariants.{UnknownType}

-- The profile names the types that it reads, and AGR, ISW, EXC and ACK. The lists here are of the other types of the
-- published standard, CWR 2.2 with its revisions, and are no part of the profile; a type of which it is in doubt
-- whether version 2.2 has it is among them.

-- types of an agreement: territories, interested parties, and their names in other alphabets
abbrev pub is_of_agreement : List ℕ → Bool
is_of_agreement name = bytes_eq name (codes "TER") || bytes_eq name (codes "IPA") || bytes_eq name (codes "NPA")

-- types with names of publishers, writers and performers, and titles, in other alphabets
abbrev pub is_of_other_alphabet : List ℕ → Bool
is_of_other_alphabet name =
    bytes_eq name (codes "NPN")
    || bytes_eq name (codes "NWN")
    || bytes_eq name (codes "NOW")
    || bytes_eq name (codes "NPR")
    || bytes_eq name (codes "NAT")
    || bytes_eq name (codes "NET")
    || bytes_eq name (codes "NCT")
    || bytes_eq name (codes "NVT")

-- types of a work: territories of other publishers and writers, the work that an excerpt or a version is of,
-- performers, recordings, origin, instruments, components, and further information; and messages
abbrev pub is_of_work : List ℕ → Bool
is_of_work name =
    bytes_eq name (codes "OPT")
    || bytes_eq name (codes "OWT")
    || bytes_eq name (codes "EWT")
    || bytes_eq name (codes "VER")
    || bytes_eq name (codes "PER")
    || bytes_eq name (codes "REC")
    || bytes_eq name (codes "ORN")
    || bytes_eq name (codes "INS")
    || bytes_eq name (codes "IND")
    || bytes_eq name (codes "COM")
    || bytes_eq name (codes "ARI")
    || bytes_eq name (codes "MSG")

-- the type is one of CWR 2.2 that the profile does not read
abbrev pub is_standard : List ℕ → Bool
is_standard name = is_of_agreement name || is_of_other_alphabet name || is_of_work name

-- a remark on a type that is carried along, where it is none of CWR 2.2
abbrev pub unknown_type : RecordType → List ℕ → Option Remarked
unknown_type Carried name = if is_standard name then None else Some UnknownType
unknown_type _ name = None
