-- The faults of a line's fields, and the least of them.
use Rattle.std.specs.Prelude.{◌≡◌, ℕ, ◌≤◌, ◌<◌, List, [], ◌∷◌, Contains, if◌then◌else◌, ◌⊎◌, is_some}
use Rattle.std.specs.List.{AllByRecursion}
use Rattle.cwr_record.specs.Layout.{reading, Part, Read, Kept, Written}
use Rattle.cwr_record.specs.declared.slot.FieldFault.{FieldFault}
use Rattle.cwr_record.specs.declared.slot.Slot.{Slot}
use Rattle.cwr_record.specs.declared.slot.Content.{Content}
use Rattle.cwr_record.specs.declared.slot.Content.TheVariants.{Kind, OneOf, Digits, Share, Day, Time, OptionalDay, OptionalTime, Code}

-- what a field's fault is called: 1 not digits, 2 not a share, 3 not a date, 4 not a time, 5 a wrong ISWC, 6 another
-- record type
abbrev pub fault_number : Content → ℕ
fault_number Digits = 1
fault_number Share = 2
fault_number Day = 3
fault_number OptionalDay = 3
fault_number Time = 4
fault_number OptionalTime = 4
fault_number Code = 5
fault_number (Kind code) = 6
fault_number (OneOf first second) = 6

-- the fault of a field: the position of its first byte, from 1, and the fault's number
abbrev pub fault_of : Slot → FieldFault
fault_of s = record { start = s.column.start; number = fault_number s.content }

-- the faults of the line: one for each field that stands for no value
abbrev pub faults : List ℕ → List Slot → List FieldFault
faults line [] = []
faults line (s ∷ slots) = if is_some (reading line s) then faults line slots else fault_of s ∷ faults line slots

-- by start, and at one start by number
abbrev pub IsNotAfter : FieldFault → FieldFault → Type 0
IsNotAfter f g = (f.start < g.start) ⊎ ((f.start ≡ g.start) × (f.number ≤ g.number))

-- a fault of the line, and none comes before it
abbrev pub IsLeastFault : List ℕ → List Slot → FieldFault → Type 0
IsLeastFault line slots f = Contains (faults line slots) f × AllByRecursion (IsNotAfter f) (faults line slots)

-- the fields of a table that can have a fault
abbrev pub checked : {X : Type 0} → List (Part X) → List Slot
checked [] = []
checked (Read s part ∷ parts) = s ∷ checked parts
checked (Kept column part ∷ parts) = checked parts
checked (Written column text ∷ parts) = checked parts
