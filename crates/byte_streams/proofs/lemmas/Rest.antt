-- What is left of a text.
use Rattle.std.proofs.Common.{◌≡◌, ℕ, ◌-◌, List, take, drop, length, arith}
use Rattle.std.proofs.lemmas.Grind.{common_steps}

-- the slice of a list from an index on
pub rest_from : (i : ℕ) (xs : List ℕ) → take (length xs - i) (drop i xs) ≡ drop i xs
rest_from i xs = grind (arith, common_steps)
