-- The codes in which threads tell whether a draft is on disk.
use Rattle.std.specs.Prelude.{ℕ, ◌+◌, ℤ, pos, negsuc, Option, None, Some}

-- the code of a sync that failed, by its error number: 2 where it has none or one below 0, else 3 and the number
abbrev pub failed_code : Option ℤ → ℕ
failed_code None = 2
failed_code (Some (pos number)) = 3 + number
failed_code (Some (negsuc number)) = 2
