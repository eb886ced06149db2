-- Where each field of a register's lines stands: the one place for its positions.
use Rattle.std.specs.Prelude.{ℕ, ◌+◌, ◌-◌}
use Rattle.cwr_record.specs.Columns.{from}
use Rattle.cwr_record.specs.declared.columns.Column.{Column}

-- every line: its kind, in three capitals
abbrev pub mark : Column
mark = from 1 3

-- the first line: the number of entries
abbrev pub count : Column
count = from 4 8

-- the width of the first line, without LF
abbrev pub count_width : ℕ
count_width = count.start + count.width - 1

-- the line of an entry
abbrev pub index : Column
index = from 4 8

abbrev pub submitter : Column
submitter = from 12 11

abbrev pub kind : Column
kind = from 23 3

abbrev pub title : Column
title = from 26 60

abbrev pub number : Column
number = from 86 14

abbrev pub iswc : Column
iswc = from 100 11

abbrev pub performing_control : Column
performing_control = from 111 12

abbrev pub mechanical_control : Column
mechanical_control = from 123 12

abbrev pub synchronization_control : Column
synchronization_control = from 135 12

abbrev pub status : Column
status = from 147 2

abbrev pub work : Column
work = from 149 8

abbrev pub version : Column
version = from 157 8

abbrev pub faults : Column
faults = from 165 9

-- the width of the fields in the line of an entry that stand before its faults
abbrev pub head_width : ℕ
head_width = faults.start + faults.width - 1

-- a fault
abbrev pub fault_sequence : Column
fault_sequence = from 1 8

abbrev pub fault_number : Column
fault_number = from 9 2

abbrev pub fault_record_type : Column
fault_record_type = from 11 3

-- the width of one fault in the line of an entry
abbrev pub fault_width : ℕ
fault_width = fault_record_type.start + fault_record_type.width - 1
