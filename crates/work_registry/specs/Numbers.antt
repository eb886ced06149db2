-- The numbers that a registry gives.
use Rattle.std.specs.Prelude.{ℕ, ◌≤◌}
use Rattle.cwr_field.specs.Number.{max_count}
use Rattle.work_registry.specs.declared.reply.Reply.{Reply}
use Rattle.work_registry.specs.declared.reply.Reply.TheVariants.{Accepted, Duplicate, Conflict, Rejected}

-- the most entries of a book: the greatest number of eight digits
abbrev pub max_entries : ℕ
max_entries = max_count

-- a number from 1 to 99,999,999, which eight digits can hold
abbrev pub IsNumber : ℕ → Type 0
IsNumber n = (1 ≤ n) × (n ≤ max_entries)

-- the work and the version in a reply are numbers from 1 to 99,999,999
abbrev pub IsNumbered : Reply → Type 0
IsNumbered (Accepted w v) = IsNumber w × IsNumber v
IsNumbered (Duplicate w) = IsNumber w
IsNumbered (Conflict w) = IsNumber w
IsNumbered Rejected = Unit
