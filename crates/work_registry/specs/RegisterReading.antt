-- How far a register was read.
use Rattle.std.specs.Prelude.{◌≡◌, ℕ, ◌<◌, ◌^◌, List, ◌++◌, length, true}
use Rattle.std.specs.List.{AllByRecursion}
use Rattle.work_registry.specs.declared.register.refusal.RegisterRefusal.{RegisterRefusal}
use Rattle.work_registry.specs.EntryValue.{EntryValue}
use Rattle.work_registry.specs.Replay.{is_opening}
use Rattle.work_registry.specs.Register.{count_line, entry_lines, IsWholeEntry}
use Rattle.work_registry.specs.RegisterFaults.{lines, HasFaultAfter, IsFault, IsRefusal}

-- The text begins with the first line of `count` entries and the lines of these, which have no fault. The rest alone
-- decides which faults it has.
pub record IsReadTo (limit : ℕ) (text : List ℕ) (count : ℕ) (entries : List EntryValue) (rest : List ℕ) : Type 0 where
  pub small : count < 10 ^ 8
  pub bytes : text ≡ count_line count ++ (entry_lines 1 entries ++ rest)
  pub opening : is_opening entries ≡ true
  pub whole : AllByRecursion IsWholeEntry entries
  -- each fault of the text is one of the rest
  pub after : (k n : ℕ) → IsFault limit text k n → HasFaultAfter count entries (lines rest) k n
  -- each fault of the rest is one of the text
  pub before : (k n : ℕ) → HasFaultAfter count entries (lines rest) k n → IsFault limit text k n

-- one line more was read, of whatever text and with whatever number of entries
abbrev pub IsStep : List EntryValue → List ℕ → List EntryValue → List ℕ → Type 0
IsStep entries rest entries' rest' =
    (limit : ℕ) (text : List ℕ) (count : ℕ) → length entries < count → IsReadTo limit text count entries rest → IsReadTo limit text count entries' rest'

-- the next line could not be read, of whatever text: this is why the text is refused
abbrev pub IsStop : List EntryValue → List ℕ → RegisterRefusal → Type 0
IsStop entries rest refusal =
    (limit : ℕ) (text : List ℕ) (count : ℕ) → length entries < count → IsReadTo limit text count entries rest → IsRefusal limit text refusal
