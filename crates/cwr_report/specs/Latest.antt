-- What the lines of a transaction before one of them say about it.
use Rattle.std.specs.Prelude.{ℕ, Bool, true, false, List, [], find, unwrap_or}
use Rattle.cwr_record.specs.Columns.{field_at, every_record_type, publisher_party, writer_party}
use Rattle.cwr_record.specs.RecordTypes.{type_of}
use Rattle.cwr_record.specs.declared.record_type.RecordType.{RecordType}
use Rattle.cwr_record.specs.declared.record_type.RecordType.TheVariants.{Spu, Spt, Swr, Swt, Pwr, Carried}
use Rattle.cwr_report.specs.declared.latest.Latest.{Latest}

-- the record is an SPU
abbrev pub is_spu : RecordType → Bool
is_spu Spu = true
is_spu _ = false

-- the record is an SWR
abbrev pub is_swr : RecordType → Bool
is_swr Swr = true
is_swr _ = false

-- the record decides what may follow: any but territories, publishers for writers, and carried ones
abbrev pub is_leading : RecordType → Bool
is_leading Spt = false
is_leading Swt = false
is_leading Pwr = false
is_leading Carried = false
is_leading _ = true

-- the last line whose type passes, where the lines stand the newest first; no bytes where there is none
abbrev pub last_of : (RecordType → Bool) → List (List ℕ) → List ℕ
last_of p before = unwrap_or (find (λ line. p (type_of line)) before) []

-- the party of the last SPU, that of the last SWR, and the type of the last record that decides what may follow;
-- blanks where there is none
abbrev pub latest_of : List (List ℕ) → Latest
latest_of before = record {
  publisher = field_at (last_of is_spu before) publisher_party;
  writer = field_at (last_of is_swr before) writer_party;
  leading = field_at (last_of is_leading before) every_record_type;
}
