-- A stamp that is given as bytes.
use Rattle.std.specs.Prelude.{Option, option_and_then}
use Rattle.cwr_field.specs.Layout.{field}
use Rattle.cwr_field.specs.Calendar.{day_of, time_of}
use Rattle.cwr_record.specs.Stamp.{StampParts, stamp_of}
use Rattle.c_values.specs.declared.stamp.StampBytes.{StampBytes}

-- the stamp that the bytes give; `None` where its date, time, society or name is not valid
abbrev pub stamp_in : StampBytes → Option StampParts
stamp_in bytes =
    option_and_then (λ date. option_and_then (λ time. stamp_of bytes.society bytes.name date time) (time_of (field bytes.time 1 6))) (day_of (field bytes.date 1 8))
