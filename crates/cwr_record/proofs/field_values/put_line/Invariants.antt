use Rattle.std.proofs.Common.{◌≡◌, ◌≤◌, ◌+◌, ◌++◌, take, vec_len, vec_capacity}
use Rattle.std.specs.List.{flat_map, sum_by, AllByRecursion}
use Rattle.cwr_record.specs.FieldValues.{field_value_text, field_value_width, IsDated}
use Rattle.cwr_record.proofs.field_values.put_line.Given as goal

-- the pieces so far stand at the end, their dates and times are of the calendar, and the capacity has not shrunk
abbrev pub invariant-loop-field_value : goal.invariant-loop-field_value
invariant-loop-field_value g l = record {
  items : l.out.items ≡ l.fn.out.items ++ flat_map field_value_text (take l.field_value-index l.field_values);
  len : vec_len l.out ≡ vec_len l.fn.out + sum_by field_value_width (take l.field_value-index l.field_values);
  capacity : vec_capacity l.fn.out ≤ vec_capacity l.out;
  dated : AllByRecursion IsDated (take l.field_value-index l.field_values);
}
