-- The number of bytes of a file before a line.
use Rattle.std.specs.Prelude.{ℕ, zero, suc, ◌+◌, ◌==◌, List, length, drop, Option, Some, None}
use Rattle.std.specs.List.{position}

-- the size of a first line with its LF, given the index of that LF; `None` where there is none, and then it is the
-- whole text
abbrev pub size_to : List ℕ → Option ℕ → ℕ
size_to bytes None = length bytes
size_to bytes (Some end) = end + 1

-- the number of bytes of the first line, with its LF
abbrev pub first_size : List ℕ → ℕ
first_size bytes = size_to bytes (position (λ b. b == 10) bytes)

-- the number of bytes before the line at an index, from 0, each line with its LF
abbrev pub bytes_before : ℕ → List ℕ → ℕ
bytes_before zero bytes = 0
bytes_before (suc n) bytes = first_size bytes + bytes_before n (drop (first_size bytes) bytes)
