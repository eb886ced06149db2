-- How many lines a text has.
use Rattle.std.proofs.Common.{◌+◌, ◌≤◌, ℕ, true, false, cond, eqb, List, [], ◌∷◌, length, arith}
use Rattle.std.specs.Str.Lines.{lines, lines_of_parts}
use Rattle.std.specs.List.{slice_split}
use Rattle.std.proofs.lemmas.List.Splits.{length-slice_split}
use Rattle.std.proofs.lemmas.List.Sums.{count_by-le-length}

parts_few : (parts : List (List ℕ)) → length (lines_of_parts parts) ≤ length parts
parts_few [] = omega arith
parts_few (part ∷ []) = elim (eqb (length part) 0) as (λ b. length (cond b [] (part ∷ [])) ≤ 1) [ true ↦ omega arith | false ↦ omega arith ]
parts_few (part ∷ next ∷ parts) = omega (arith, parts_few (next ∷ parts))

-- a text has no more lines than bytes, but for one
pub few_lines : (bytes : List ℕ) → length (lines bytes) ≤ length bytes + 1
few_lines bytes =
    omega (arith, parts_few (slice_split (λ b. eqb b 10) bytes), length-slice_split (λ b. eqb b 10) bytes, count_by-le-length (λ b. eqb b 10) bytes)
