-- What a field that was checked is known to be.
use Rattle.std.specs.Prelude.{◌≡◌, ℕ, List, Option, Some, IsSome}
use Rattle.cwr_record.specs.Layout.{Value, Bytes, reading}
use Rattle.cwr_record.specs.declared.slot.Slot.{Slot}
use Rattle.cwr_record.specs.declared.slot.Content.{Content}
use Rattle.cwr_record.specs.declared.slot.Content.TheVariants.{Kind}

-- of a field that has one value only, that value; of any other, that there is one
abbrev pub IsRead : Content → Option Value → Type 0
IsRead (Kind code) value = value ≡ Some (Bytes code)
IsRead content value = IsSome value

-- the field of the line has a value; a field that can hold one value only has that one
abbrev pub IsReadable : List ℕ → Slot → Type 0
IsReadable line s = IsRead s.content (reading line s)
