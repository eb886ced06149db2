-- What is true of every call.
use Rattle.std.specs.Prelude.{ℕ, ◌*◌, Bool, true, false, not, ◌&&◌, ◌||◌, ◌==◌, nat_lt, nat_le, List, [], ◌∷◌, length, Option, Some, None}
use Rattle.std.specs.List.{list_all}
use Rattle.std.specs.Char.{is_ascii_uppercase}
use Rattle.cwr_field.specs.Iswc.{max_code}
use Rattle.cwr_field.specs.Layout.{is_printable}
use Rattle.cwr_field.specs.Number.{max_count}
use Rattle.cwr_field.specs.Share.{whole, max_whole}
use Rattle.cwr_call.specs.declared.transaction_fault.Fault.{Fault}
use Rattle.cwr_call.specs.CallValue.{CallValue}

-- the greatest number of faults of a call
abbrev pub max_faults : ℕ
max_faults = 999999999

-- the greatest control of one right in a call: the whole of it in each of the most records that there can be
abbrev pub max_sum : ℕ
max_sum = max_count * whole

-- no byte of a text is a control byte
abbrev pub is_clean : List ℕ → Bool
is_clean bytes = is_printable bytes

-- a fault that can be: a record sequence of at most eight digits, a rule from 1 to 15, and a record type of capitals
abbrev pub is_fault : Fault → Bool
is_fault f = nat_le f.sequence max_count && (nat_le 1 f.number && nat_le f.number 15) && list_all is_ascii_uppercase f.rtype

-- one fault comes before another: by record sequence, and at one sequence by rule number
abbrev pub is_before : Fault → Fault → Bool
is_before f g = nat_lt f.sequence g.sequence || ((f.sequence == g.sequence) && nat_lt f.number g.number)

-- the faults rise strictly, and the first of them comes after `last`
abbrev pub rises_from : Fault → List Fault → Bool
rises_from last [] = true
rises_from last (f ∷ faults) = is_before last f && rises_from f faults

-- the faults rise strictly, by record sequence and then by rule number
abbrev pub rises : List Fault → Bool
rises [] = true
rises (f ∷ faults) = rises_from f faults

-- at most 999,999,999 faults, each one that a record can have, in strictly rising order
abbrev pub are_faults : List Fault → Bool
are_faults faults = nat_le (length faults) max_faults && list_all is_fault faults && rises faults

-- there are no faults
abbrev pub is_none_found : List Fault → Bool
is_none_found [] = true
is_none_found _ = false

-- no control is above the limit
abbrev pub are_at_most : ℕ → List ℕ → Bool
are_at_most limit control = list_all (λ c. nat_le c limit) control

-- without faults no right is controlled above 100.06 per cent, the whole with its tolerance
abbrev pub is_whole : List Fault → List ℕ → Bool
is_whole faults control = not (is_none_found faults) || are_at_most max_whole control

-- there is no ISWC, or one of at most nine digits
abbrev pub is_iswc : Option ℕ → Bool
is_iswc None = true
is_iswc (Some n) = nat_le n max_code

-- what is true of every call: its texts have no control byte, its numbers are in range and its faults are in order
abbrev pub is_lawful : CallValue → Bool
is_lawful c =
    is_clean c.submitter && is_clean c.title && is_clean c.number && is_iswc c.iswc
    && are_at_most max_sum c.control && is_whole c.faults c.control && are_faults c.faults
