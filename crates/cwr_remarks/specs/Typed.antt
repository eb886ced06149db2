-- A line with its record type, before the lines that are left.
use Rattle.std.specs.Prelude.{ℕ, ◌≡◌, List, [], ◌∷◌, Option, Some, None, if◌then◌else◌}
use Rattle.cwr_record.specs.RecordTypes.{type_of}
use Rattle.cwr_remarks.specs.declared.typed.Typed.{Typed}
use Rattle.cwr_remarks.specs.Territories.{has_territories}

-- the line that was read, where there was one, and the lines that are left
abbrev pub left : Option Typed → List (List ℕ) → List (List ℕ)
left None rest = []
left (Some taken) rest = taken.line.now ∷ rest

-- the lines that are left, where the remarks on that line depend on them; else none
abbrev pub looked_at : Option Typed → List (List ℕ) → List (List ℕ)
looked_at None rest = []
looked_at (Some taken) rest = if has_territories taken.record_type then rest else []

-- the type that was read is that of the line
abbrev pub IsTyped : Option Typed → Type 0
IsTyped None = Unit {0}
IsTyped (Some taken) = taken.record_type ≡ type_of taken.line.now
