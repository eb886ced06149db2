-- What an acknowledgement says of itself in its first line, and of a transaction in another.
use Rattle.std.specs.Prelude.{ℕ, Bool, ◌&&◌, List, Option, None, codes, is_some, option_and_then, option_map, slice_get, if◌then◌else◌}
use Rattle.std.specs.List.{filter_map, list_all}
use Rattle.std.specs.Str.{bytes_eq}
use Rattle.std.specs.Str.Lines.{lines}
use Rattle.cwr_field.specs.Calendar.{day_of, time_of}
use Rattle.cwr_field.specs.Layout.{field}
use Rattle.cwr_field.specs.Number.{number_of}
use Rattle.cwr_record.specs.Acknowledgement as table
use Rattle.cwr_record.specs.Columns as column
use Rattle.cwr_record.specs.Columns.{field_at}
use Rattle.cwr_record.specs.Control as control
use Rattle.cwr_record.specs.Faults.{checked}
use Rattle.cwr_record.specs.Kinds.{status_named}
use Rattle.cwr_record.specs.Layout.{reading}
use Rattle.cwr_record.specs.Stamp.{StampParts, stamp_of}
use Rattle.cwr_verify.specs.declared.ack_status.AckStatus.{AckStatus}

-- the line is an ACK: each of its fields that can have a fault has none
abbrev pub is_ack : List ℕ → Bool
is_ack line = list_all (λ s. is_some (reading line s)) (checked table.ack)

-- the same, field by field: the type is ACK, and each number, date and time can be read
abbrev pub can_be_read : List ℕ → Bool
can_be_read line =
    bytes_eq (field_at line column.every_record_type) (codes "ACK")
    && (is_some (number_of (field_at line column.prefix_transaction))
    && (is_some (number_of (field_at line column.prefix_detail))
    && (is_some (day_of (field_at line column.ack_creation_date))
    && (is_some (time_of (field_at line column.ack_creation_time))
    && (is_some (number_of (field_at line column.ack_original_group))
    && (is_some (number_of (field_at line column.ack_original_transaction))
    && is_some (day_of (field_at line column.ack_processing_date))))))))

-- the status of an ACK, and the registry's number of the work, which the recipient's number begins with; `None` where
-- the line is no ACK, or its status is none of the four
abbrev pub status_in_line : List ℕ → Option AckStatus
status_in_line line =
    if is_ack line
    then option_map (λ status. record { status = status; work = number_of (field (field_at line column.ack_recipient_number) 1 8) }) (status_named (field_at line column.ack_status))
    else None

-- the status and work of each ACK in a text, in order
abbrev pub statuses_in : List ℕ → List AckStatus
statuses_in text = filter_map status_in_line (lines text)

-- the line is an HDR: each of its fields that can have a fault has none
abbrev pub is_header : List ℕ → Bool
is_header line = list_all (λ s. is_some (reading line s)) (checked control.header)

-- the stamp that an HDR has: the society whose number the last three bytes of its sender are, its name, and its
-- creation date and time; `None` where the line is no HDR, these bytes are not digits, or the name has a control byte
abbrev pub stamp_in_line : List ℕ → Option StampParts
stamp_in_line line =
    if is_header line
    then option_and_then (λ society. option_and_then (λ date. option_and_then (λ time. stamp_of society (field_at line column.header_name) date time)
    (time_of (field_at line column.header_creation_time))) (day_of (field_at line column.header_creation_date))) (number_of (field (field_at line column.header_sender) 9 3))
    else None

-- the stamp that the first line of a text has; `None` where there is no line
abbrev pub stamp_in : List ℕ → Option StampParts
stamp_in text = option_and_then stamp_in_line (slice_get (lines text) 0)
