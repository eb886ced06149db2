-- How many rows are written, and how many are left to write.
use Rattle.std.proofs.Common.{◌≡◌, ◌+◌, ◌<◌, ◌≤◌, ℕ, Bool, true, false, List, ◌∷◌, length, drop, filter, get_or, if◌then◌else◌, arith}
use Rattle.std.proofs.lemmas.List.{drop_more}
use Rattle.register_tables.specs.Summary.{count}

-- of what is left, the next is one where it is counted
pub next_count : {X : Type 0} (p : X → Bool) (xs : List X) (i : ℕ) (d : X) → i < length xs
    → count p (drop i xs) ≡ (if p (get_or xs i d) then 1 else 0) + count p (drop (i + 1) xs)
next_count {X} p xs i d lt = rw (drop_more xs i d lt) (by (p (get_or xs i d)))
  where
    by : (b : Bool) → length (if b then get_or xs i d ∷ filter p (drop (i + 1) xs) else filter p (drop (i + 1) xs))
        ≡ (if b then 1 else 0) + length (filter p (drop (i + 1) xs))
    by true = omega arith
    by false = omega arith

-- one row more, or as many, and what is left then
pub counted_on : {told : ℕ} (rows more next left total : ℕ) → rows + next ≡ total → next ≡ more + left → told ≡ more → rows + told + left ≡ total
counted_on rows more next left total before is written = omega (arith, before, is, written)

-- a row is written for an entry or a work that is passed, at most
pub few_more : {told : ℕ} (b : Bool) (rows passed : ℕ) → rows ≤ passed → told ≡ (if b then 1 else 0) → rows + told ≤ passed + 1
few_more true rows passed few is = omega (arith, few, is)
few_more false rows passed few is = omega (arith, few, is)

-- so they are no more than there are entries or works
pub within : {told : ℕ} (b : Bool) (rows passed most : ℕ) → rows ≤ passed → told ≡ (if b then 1 else 0) → passed < most → rows + told ≤ most
within true rows passed most few is lt = omega (arith, few, is, lt)
within false rows passed most few is lt = omega (arith, few, is, lt)
