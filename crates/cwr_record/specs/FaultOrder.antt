-- The order of the faults of a text of lines.
use Rattle.std.specs.Prelude.{ℕ, ◌≡◌, ◌≤◌, ◌<◌, ◌⊎◌}

-- fault n of line k comes no later than fault m of line j: by line, and at one line by number
abbrev pub IsNoLater : ℕ → ℕ → ℕ → ℕ → Type 0
IsNoLater k n j m = (k < j) ⊎ ((k ≡ j) × (n ≤ m))
