-- The faults of a file, and the first of them: the least line, and of its faults the least number.
use Rattle.std.specs.Prelude.{ℕ, ◌+◌, ◌≡◌, ◌⊎◌, Bool, List, [], ◌∷◌, length, if◌then◌else◌}
use Rattle.cwr_record.specs.FaultOrder.{IsNoLater}
use Rattle.cwr_grammar.specs.FaultTests.{rows_of, rows_at_end}

-- the numbers of the faults that hold, in order
abbrev pub numbers : List (ℕ × Bool) → List ℕ
numbers [] = []
numbers ((n, holds) ∷ rows) = if holds then n ∷ numbers rows else numbers rows

-- n is one of the numbers
abbrev pub Has : ℕ → List ℕ → Type 0
Has n [] = ⊥
Has n (m ∷ ms) = (n ≡ m) ⊎ Has n ms

-- Line k has fault n, where these lines follow the lines before, which stand the newest first. Lines are counted from
-- 1 from the first line of the file, and the line after the last one stands for the end of the file.
abbrev pub HasFault : ℕ → ℕ → List (List ℕ) → List (List ℕ) → Type 0
HasFault k n before [] = (k ≡ length before + 1) × Has n (numbers (rows_at_end before))
HasFault k n before (line ∷ rest) = ((k ≡ length before + 1) × Has n (numbers (rows_of before line))) ⊎ HasFault k n (line ∷ before) rest

-- line k of a text, from 1, has fault n
abbrev pub IsFault : List (List ℕ) → ℕ → ℕ → Type 0
IsFault text k n = HasFault k n [] text

-- the first fault of a text: line k has fault n, and no fault has a lower line, or a lower number at that line
pub record IsLeastFault (text : List (List ℕ)) (k n : ℕ) : Type 0 where
  pub has : IsFault text k n
  -- no fault comes before it
  pub least : (j m : ℕ) → IsFault text j m → IsNoLater k n j m
