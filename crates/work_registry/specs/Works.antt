-- What the accepted entries say of a work: its control of each right, and its ISWC.
use Rattle.std.specs.Prelude.{ℕ, ◌+◌, ◌==◌, ◌&&◌, Bool, false, List, [], ◌∷◌, if◌then◌else◌, Option, Some, None, sum_by, slice_index, is_some}
use Rattle.std.specs.List.{list_any}
use Rattle.std.specs.Option.{option_map}
use Rattle.work_registry.specs.declared.key.Key.{Key}
use Rattle.work_registry.specs.Rows.{Row, same_key, current, last_such}

-- what a row adds to the control of work w in one right; the rights are 0 performing, 1 mechanical, 2 synchronization
abbrev pub share_in : ℕ → ℕ → Row → ℕ
share_in right w r = if r.work == w then slice_index r.control right else 0

-- the control of a work in one right: the sum over its current rows
abbrev pub control_in : ℕ → ℕ → List Row → ℕ
control_in right w rows = sum_by (share_in right w) (current rows)

-- the control of a work: performing, mechanical, synchronization
abbrev pub control_of : ℕ → List Row → List ℕ
control_of w rows = control_in 0 w rows ∷ control_in 1 w rows ∷ control_in 2 w rows ∷ []

-- a sum over the current rows that have other keys than k
abbrev pub sum_of_others : (Row → ℕ) → Key → List Row → ℕ
sum_of_others f k rows = sum_by (λ r. if same_key r.key k then 0 else f r) (current rows)

-- the control of a work in one right under other keys than k
abbrev pub others_in : ℕ → ℕ → Key → List Row → ℕ
others_in right w k rows = sum_of_others (share_in right w) k rows

-- the control of a work under other keys than k: performing, mechanical, synchronization
abbrev pub others_of : ℕ → Key → List Row → List ℕ
others_of w k rows = others_in 0 w k rows ∷ others_in 1 w k rows ∷ others_in 2 w k rows ∷ []

-- there is an ISWC, and it is this one
abbrev pub is_iswc : ℕ → Option ℕ → Bool
is_iswc i None = false
is_iswc i (Some j) = i == j

-- the ISWC of a row; `None` where there is no row, or where its call had none
abbrev pub iswc_in : Option Row → Option ℕ
iswc_in None = None
iswc_in (Some r) = r.iswc

-- the ISWC of a work: that of its last row that has one; `None` where no row of it has one
abbrev pub iswc_of : ℕ → List Row → Option ℕ
iswc_of w rows = iswc_in (last_such (λ r. (r.work == w) && is_some r.iswc) rows)

-- the work of the last row with this ISWC, which in every history is the work that has it
abbrev pub work_of_iswc : ℕ → List Row → Option ℕ
work_of_iswc i rows = option_map (λ r. r.work) (last_such (λ r. is_iswc i r.iswc) rows)

-- a row is of this work
abbrev pub has_work : ℕ → List Row → Bool
has_work w rows = list_any (λ r. r.work == w) rows

-- the number of different works in the rows
abbrev pub work_count : List Row → ℕ
work_count [] = 0
work_count (r ∷ rs) = (if has_work r.work rs then 0 else 1) + work_count rs
