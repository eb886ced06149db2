-- Where columns, and the fields of a table, may lie.
use Rattle.std.specs.Prelude.{ℕ, nat_le, nat_lt, ◌==◌, Bool, true, ◌&&◌, List, [], ◌∷◌}
use Rattle.std.specs.List.{list_all}
use Rattle.cwr_record.specs.declared.columns.Column.{Column}
use Rattle.cwr_record.specs.declared.slot.Slot.{Slot}
use Rattle.cwr_record.specs.declared.slot.Content.{Content}
use Rattle.cwr_record.specs.declared.slot.Content.TheVariants.{Kind, OneOf, Digits, Share, Day, Time, OptionalDay, OptionalTime, Code}

-- the column begins in the first 4096 bytes, and is no wider than the widest field
abbrev pub is_in_line : Column → Bool
is_in_line column = nat_le 1 column.start && nat_le column.start 4096 && nat_le 1 column.width && nat_le column.width 150

-- the width suits what the field holds
abbrev pub is_wide : Content → ℕ → Bool
is_wide (Kind code) width = width == 3
is_wide (OneOf first second) width = width == 3
is_wide Digits width = nat_le 1 width && nat_le width 18
is_wide Share width = width == 5
is_wide Day width = width == 8
is_wide Time width = width == 6
is_wide OptionalDay width = width == 8
is_wide OptionalTime width = width == 6
is_wide Code width = width == 11

-- the field begins in the first 4096 bytes, and its width suits what it holds
abbrev pub is_slot : Slot → Bool
is_slot s = is_in_line s.column && is_wide s.content s.column.width

-- each of the fields begins in the first 4096 bytes, and has a width that suits what it holds
abbrev pub all_in_line : List Slot → Bool
all_in_line slots = list_all is_slot slots

-- each field begins after the start of the one before it
abbrev pub starts_rise : List Slot → Bool
starts_rise [] = true
starts_rise (s ∷ []) = true
starts_rise (s ∷ t ∷ slots) = nat_lt s.column.start t.column.start && starts_rise (t ∷ slots)
