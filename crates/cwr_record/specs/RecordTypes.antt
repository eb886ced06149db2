-- The record types.
use Rattle.std.specs.Prelude.{ℕ, Bool, ◌||◌, List, codes, if◌then◌else◌}
use Rattle.std.specs.Str.{bytes_eq}
use Rattle.std.specs.List.{list_all}
use Rattle.std.specs.Char.{is_ascii_uppercase}
use Rattle.cwr_record.specs.Columns.{field_at, every_record_type}
use Rattle.cwr_record.specs.declared.record_type.RecordType.{RecordType}
use Rattle.cwr_record.specs.declared.record_type.RecordType.TheVariants.{Hdr, Grh, Grt, Trl, Nwr, Rev, Ack, Spu, Spt, Opu, Swr, Swt, Pwr, Owr, Alt, Xrf, Other, Carried, Bad}

-- AGR, ISW or EXC: the headers of transactions that are not read, an agreement, an ISWC notification and a report of
-- existing works
abbrev pub is_other : List ℕ → Bool
is_other name = bytes_eq name (codes "AGR") || bytes_eq name (codes "ISW") || bytes_eq name (codes "EXC")

-- the record type that three bytes name; other capitals are a type that is carried along, and anything else is no type
abbrev pub type_named : List ℕ → RecordType
type_named name =
    if bytes_eq name (codes "NWR") then Nwr
    else if bytes_eq name (codes "REV") then Rev
    else if bytes_eq name (codes "SPU") then Spu
    else if bytes_eq name (codes "SPT") then Spt
    else if bytes_eq name (codes "OPU") then Opu
    else if bytes_eq name (codes "SWR") then Swr
    else if bytes_eq name (codes "SWT") then Swt
    else if bytes_eq name (codes "PWR") then Pwr
    else if bytes_eq name (codes "OWR") then Owr
    else if bytes_eq name (codes "ALT") then Alt
    else if bytes_eq name (codes "XRF") then Xrf
    else if bytes_eq name (codes "HDR") then Hdr
    else if bytes_eq name (codes "GRH") then Grh
    else if bytes_eq name (codes "GRT") then Grt
    else if bytes_eq name (codes "TRL") then Trl
    else if bytes_eq name (codes "ACK") then Ack
    else if is_other name then Other
    else if list_all is_ascii_uppercase name then Carried
    else Bad

-- the record type of a line, by its first three bytes
abbrev pub type_of : List ℕ → RecordType
type_of line = type_named (field_at line every_record_type)
