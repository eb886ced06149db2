-- The lines that a check prints: with the name of the file, where there are several, and those of faults alone.
use Rattle.std.specs.Prelude.{ℕ, Bool, ◌||◌, List, [], ◌++◌, codes, if◌then◌else◌}
use Rattle.std.specs.List.{flat_map}
use Rattle.std.specs.Str.{bytes_eq}
use Rattle.cwr_field.specs.Layout.{field}

-- a line with the name of its file before it
abbrev pub named_line : List ℕ → List ℕ → List ℕ
named_line name line = name ++ codes ": " ++ line ++ codes "\n"

-- the lines, each with the name of the file before it
abbrev pub named_lines : List ℕ → List (List ℕ) → List ℕ
named_lines name told = flat_map (named_line name) told

-- the line is one of faults: of a transaction that is rejected, as it says behind group ID, sequence and kind, or of a
-- file that is refused
abbrev pub is_fault_line : List ℕ → Bool
is_fault_line line = bytes_eq (field line 20 8) (codes "rejected") || bytes_eq (field line 1 7) (codes "refused")

-- the line, where it is one of faults; else nothing
abbrev pub fault_line : List ℕ → List ℕ
fault_line line = if is_fault_line line then line ++ codes "\n" else []

-- those of the lines that are of faults
abbrev pub fault_lines : List (List ℕ) → List ℕ
fault_lines told = flat_map fault_line told
