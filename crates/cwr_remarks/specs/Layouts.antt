-- Where the layout of a record ends, in the columns of the profile.
use Rattle.std.specs.Prelude.{ℕ, ◌+◌, ◌-◌, nat_lt, Option, Some, None, if◌then◌else◌}
use Rattle.cwr_record.specs.Columns as column
use Rattle.cwr_record.specs.declared.columns.Column.{Column}
use Rattle.cwr_record.specs.declared.record_type.RecordType.{RecordType}
use Rattle.cwr_record.specs.declared.record_type.RecordType.TheVariants.{Hdr, Grh, Grt, Trl, Nwr, Rev, Ack, Spu, Spt, Opu, Swr, Swt, Pwr, Owr, Alt, Xrf}
use Rattle.cwr_remarks.specs.declared.remark.Remarked.{Remarked}
use Rattle.cwr_remarks.specs.declared.remark.Remarked.TheVariants.{PastLayout}

-- the position of a column's last byte
abbrev pub last_of : Column → ℕ
last_of at = at.start + at.width - 1

-- the position of the last byte of the last field, from 1; `None` for types that have no layout
abbrev pub layout_of : RecordType → Option ℕ
layout_of Hdr = Some (last_of column.header_software_version)
layout_of Grh = Some (last_of column.group_head_submission_type)
layout_of Grt = Some (last_of column.group_trailer_monetary_value)
layout_of Trl = Some (last_of column.file_trailer_records)
layout_of Nwr = Some (last_of column.work_head_contact_id)
layout_of Rev = Some (last_of column.work_head_contact_id)
layout_of Ack = Some (last_of column.ack_status)
layout_of Spu = Some (last_of column.publisher_synchronization_ownership)
layout_of Opu = Some (last_of column.publisher_synchronization_ownership)
layout_of Spt = Some (last_of column.publisher_territory_sequence)
layout_of Swr = Some (last_of column.writer_synchronization_ownership)
layout_of Owr = Some (last_of column.writer_synchronization_ownership)
layout_of Swt = Some (last_of column.writer_territory_sequence)
layout_of Pwr = Some (last_of column.link_writer_party)
layout_of Alt = Some (last_of column.alt_title_language)
layout_of Xrf = Some (last_of column.cross_ref_validity)
layout_of _ = None

-- a remark on a line of this length, where it is longer than its layout
abbrev pub past_layout : ℕ → Option ℕ → Option Remarked
past_layout size None = None
past_layout size (Some layout) = if nat_lt layout size then Some (PastLayout size layout) else None
