-- What is wrong with the words of a run: the first of its faults. And the stamp that the words name.
use Rattle.std.specs.Prelude.{ℕ, Bool, false, not, ◌&&◌, ◌||◌, ◌==◌, nat_le, nat_lt, List, [], ◌∷◌, ◌++◌, length, codes, Option, Some, None, is_some, option_and_then, if◌then◌else◌}
use Rattle.std.specs.List.{list_all, list_any}
use Rattle.std.specs.Str.{bytes_eq}
use Rattle.std.specs.Char.{is_ascii_digit}
use Rattle.cwr_field.specs.Calendar.{day_of, time_of}
use Rattle.cwr_field.specs.Layout.{field, is_printable}
use Rattle.cwr_field.specs.Number.{number_of}
use Rattle.cwr_record.specs.Columns.{header_name}
use Rattle.cwr_record.specs.Stamp.{StampParts, stamp_of}
use Rattle.run_options.specs.declared.words.RunFault.{RunFault}
use Rattle.run_options.specs.declared.words.RunFault.TheVariants.{Society, Name, Date, Time, TooMany, Twice}

-- the word is a society: three digits
abbrev pub is_society : List ℕ → Bool
is_society word = (length word == 3) && list_all is_ascii_digit word

-- the word is a name: at least one byte and no more than Sender Name of HDR has, none of them a control byte
abbrev pub is_name : List ℕ → Bool
is_name word = (nat_le 1 (length word) && nat_le (length word) header_name.width) && is_printable word

-- the word is a date: eight bytes YYYYMMDD that name a day
abbrev pub is_date : List ℕ → Bool
is_date word = (length word == 8) && is_some (day_of word)

-- the word is a time: six bytes HHMMSS that name a time of a day
abbrev pub is_time : List ℕ → Bool
is_time word = (length word == 6) && is_some (time_of word)

-- the other's name is that of the file with .ack behind it
abbrev pub is_acknowledgement : List ℕ → List ℕ → Bool
is_acknowledgement file other = bytes_eq other (file ++ codes ".ack")

-- two names are one, or one is that of the other's acknowledgement
unfoldable pub is_same_file : List ℕ → List ℕ → Bool
is_same_file file other = bytes_eq file other || is_acknowledgement file other || is_acknowledgement other file

-- two of the words, at different places, are one, or one is that of the other's acknowledgement
abbrev pub is_named_twice : List (List ℕ) → Bool
is_named_twice [] = false
is_named_twice (file ∷ files) = list_any (is_same_file file) files || is_named_twice files

-- the first fault of the words of a run; `None` where there is none
abbrev pub run_fault : List ℕ → List ℕ → List ℕ → List ℕ → List (List ℕ) → Option RunFault
run_fault society name date time files =
    if not (is_society society) then Some Society
    else if not (is_name name) then Some Name
    else if not (is_date date) then Some Date
    else if not (is_time time) then Some Time
    else if nat_lt 63 (length files) then Some TooMany
    else if is_named_twice files then Some Twice
    else None

-- the text of a fault
abbrev pub run_fault_text : RunFault → List ℕ
run_fault_text Society = codes "bad --society"
run_fault_text Name = codes "bad --name"
run_fault_text Date = codes "bad --date"
run_fault_text Time = codes "bad --time"
run_fault_text TooMany = codes "too many files"
run_fault_text Twice = codes "file named twice"

-- the stamp that the words name; `None` where one of them is not valid
abbrev pub run_stamp : List ℕ → List ℕ → List ℕ → List ℕ → Option StampParts
run_stamp society name date time =
    option_and_then (λ number. option_and_then (λ day. option_and_then (λ clock. stamp_of number name day clock)
    (time_of (field time 1 6))) (day_of (field date 1 8))) (number_of (field society 1 3))
