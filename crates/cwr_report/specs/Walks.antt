-- A walk over lines, some of which were read.
use Rattle.std.specs.Prelude.{ℕ, ◌≡◌, IsTrue, List, [], ◌∷◌, drop, take, reverse, Option, Some, None}
use Rattle.std.specs.Borrow.{Bor}
use Rattle.cwr_report.specs.declared.walk.Walk.{Walk}
use Rattle.cwr_report.specs.Latest.{latest_of}

-- the first of the lines; no bytes where there is none
abbrev pub first_of : List (List ℕ) → List ℕ
first_of [] = []
first_of (line ∷ more) = line

-- the line at an index, from 0; no bytes where there is none
abbrev pub line_at : List (List ℕ) → ℕ → List ℕ
line_at lines index = first_of (drop index lines)

-- the lines before the one at an index, the last of them first
abbrev pub lines_before : List (List ℕ) → ℕ → List (List ℕ)
lines_before lines index = reverse (take index lines)

-- the lines are the current line, where there is one, and the rest
abbrev pub AreLeft : Option (Bor (List ℕ)) → List (List ℕ) → List (List ℕ) → Type 0
AreLeft None rest lines = (lines ≡ []) × (rest ≡ [])
AreLeft (Some line) rest lines = lines ≡ line.now ∷ rest

-- the first `index` lines were read, and what they say is kept where it is needed
pub record IsWalk (w : Walk) (lines : List (List ℕ)) (index : ℕ) : Type 0 where
  pub left : AreLeft w.line w.rest (drop index lines)
  pub passed_is : w.passed ≡ index
  -- what the lines before say, where the walk keeps it
  pub latest_is : IsTrue w.keeps → w.latest ≡ latest_of (lines_before lines index)
