-- The text of a register that is made in chunks: what is still to come.
use Rattle.std.specs.Prelude.{ℕ, ◌+◌, ◌≤◌, ◌^◌, List, ◌∷◌, ◌++◌, length}
use Rattle.std.specs.List.{flat_map, AllByRecursion}
use Rattle.cwr_record.specs.Lines.{Fits, line_of}
use Rattle.work_registry.specs.EntryValue.{EntryValue}
use Rattle.work_registry.specs.RegisterLine.{fault}
use Rattle.work_registry.specs.Register.{FitsEntry, count_line, entry_lines}
use Rattle.work_registry.specs.declared.register.chunks.Next.{Next}
use Rattle.work_registry.specs.declared.register.chunks.Next.TheVariants.{Count, Entry, Faults}

-- a text in chunks, as contracts see it
pub record ChunksState : Type 0 where
  -- the chunk that is there
  pub held : List ℕ
  -- the bytes that come after it
  pub left : List ℕ

-- the rest of a register: what comes next, and then the lines of these entries, of which the first has this index
abbrev pub text_from : Next → ℕ → List EntryValue → List ℕ
text_from Count index entries = count_line (length entries) ++ entry_lines index entries
text_from Entry index entries = entry_lines index entries
text_from (Faults faults) index entries = flat_map (line_of fault) faults.now ++ 10 ∷ entry_lines index entries

-- the faults that are to come in a line that was begun fit their fields
abbrev pub FitsNext : Next → Type 0
FitsNext Count = Unit {0}
FitsNext Entry = Unit {0}
FitsNext (Faults faults) = AllByRecursion (Fits fault) faults.now

-- all that is to come of a register fits its fields
pub record FitsFrom (next : Next) (index : ℕ) (entries : List EntryValue) : Type 0 where
  pub faults : FitsNext next
  pub fit : AllByRecursion FitsEntry entries
  pub first : 1 ≤ index
  pub few : index + length entries ≤ 10 ^ 8
