-- The fields of an acknowledgement that can have a fault, one by one.
use Rattle.std.proofs.Common.{◌≡◌, ◌∙◌, ℕ, Bool, true, false, List, Option, Some, None, refl, sym}
use Rattle.std.specs.Prelude.{◌&&◌, codes, is_some, option_map, if◌then◌else◌}
use Rattle.std.specs.Str.{bytes_eq}
use Rattle.cwr_field.specs.Calendar.{day_of, time_of}
use Rattle.cwr_field.specs.Number.{number_of}
use Rattle.cwr_record.specs.Columns as column
use Rattle.cwr_record.specs.Columns.{field_at}
use Rattle.cwr_record.specs.Layout.{Value, Bytes, Number}
use Rattle.cwr_verify.specs.Acknowledged.{can_be_read, is_ack}

-- a number, a date or a time can be read where it has a value
valued : (o : Option ℕ) → is_some (option_map Number o) ≡ is_some o
valued None = refl
valued (Some n) = refl

-- a type can be read where it is this one
typed : (b : Bool) (v : Value) → is_some (if b then Some v else None) ≡ b
typed true v = refl
typed false v = refl

last : (b : Bool) → (b && true) ≡ b
last true = refl
last false = refl

pub read_by_fields : (line : List ℕ) → can_be_read line ≡ is_ack line
read_by_fields line = sym (λ i.
    typed (bytes_eq (field_at line column.every_record_type) (codes "ACK")) (Bytes (codes "ACK")) i
    && (valued (number_of (field_at line column.prefix_transaction)) i
    && (valued (number_of (field_at line column.prefix_detail)) i
    && (valued (day_of (field_at line column.ack_creation_date)) i
    && (valued (time_of (field_at line column.ack_creation_time)) i
    && (valued (number_of (field_at line column.ack_original_group)) i
    && (valued (number_of (field_at line column.ack_original_transaction)) i
    && closing (option_map Number (day_of (field_at line column.ack_processing_date))) (is_some (day_of (field_at line column.ack_processing_date))) (valued (day_of (field_at line column.ack_processing_date))) i)))))))
  where
    closing : (o : Option Value) (b : Bool) → is_some o ≡ b → (is_some o && true) ≡ b
    closing o b is = last (is_some o) ∙ is
