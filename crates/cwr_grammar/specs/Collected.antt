-- The transactions among lines, each with its details, and the numbers of groups and records of lines.
use Rattle.std.specs.Prelude.{ℕ, ◌+◌, List, [], ◌∷◌, Some, None, if◌then◌else◌}
use Rattle.cwr_grammar.specs.declared.role.Role.{Role}
use Rattle.cwr_grammar.specs.declared.role.Role.TheVariants.{FileHeader, GroupHeader, TransactionHeader, Detail, GroupTrailer, FileTrailer, Unnamed}
use Rattle.cwr_grammar.specs.Roles.{role_of}
use Rattle.cwr_grammar.specs.RawParts.{RawParts}
use Rattle.cwr_grammar.specs.Visiting.{is_detail}

-- the details that stand first among the lines, up to the first line of another role
abbrev pub details : List (List ℕ) → List (List ℕ)
details [] = []
details (line ∷ lines) = if is_detail (role_of line) then line ∷ details lines else []

-- The transactions from a line on, given its role: a transaction's header takes the details that follow, a GRH begins
-- a new group, and a TRL ends the list. Before the line, g groups have begun, and t transactions of the last of them.
abbrev pub raws_after : Role → List ℕ → List (List ℕ) → (ℕ → ℕ → List RawParts) → ℕ → ℕ → List RawParts
raws_after (GroupHeader kind group) line following more g t = more (g + 1) 0
raws_after (TransactionHeader (Some kind) transaction place) line following more g t = record { group = g; sequence = t; kind = kind; lines = line ∷ following } ∷ more g (t + 1)
raws_after (TransactionHeader None transaction place) line following more g t = more g (t + 1)
raws_after (FileTrailer groups all records) line following more g t = []
raws_after (Detail transaction place) line following more g t = more g t
raws_after (GroupTrailer group all records) line following more g t = more g t
raws_after (FileHeader valid) line following more g t = more g t
raws_after Unnamed line following more g t = more g t

-- the transactions among the lines up to a TRL, where g groups have begun, and t transactions of the last one
abbrev pub raws : List (List ℕ) → ℕ → ℕ → List RawParts
raws [] g t = []
raws (line ∷ lines) g t = raws_after (role_of line) line (details lines) (raws lines) g t

-- the number of GRH from a line on, given its role and the number after it; from a TRL on it is 0
abbrev pub group_count_at : Role → ℕ → ℕ
group_count_at (GroupHeader kind group) n = n + 1
group_count_at (FileTrailer groups all records) n = 0
group_count_at (FileHeader valid) n = n
group_count_at (TransactionHeader kind transaction place) n = n
group_count_at (Detail transaction place) n = n
group_count_at (GroupTrailer group all records) n = n
group_count_at Unnamed n = n

-- the number of GRH among the lines before the first TRL
abbrev pub group_count : List (List ℕ) → ℕ
group_count [] = 0
group_count (line ∷ rest) = group_count_at (role_of line) (group_count rest)

-- the number of records from a line on, given its role and the number after it; a TRL is the last one
abbrev pub record_count_at : Role → ℕ → ℕ
record_count_at (FileTrailer groups all records) n = 1
record_count_at (GroupHeader kind group) n = n + 1
record_count_at (FileHeader valid) n = n + 1
record_count_at (TransactionHeader kind transaction place) n = n + 1
record_count_at (Detail transaction place) n = n + 1
record_count_at (GroupTrailer group all records) n = n + 1
record_count_at Unnamed n = n + 1

-- the number of lines up to the first TRL, which is counted too
abbrev pub record_count : List (List ℕ) → ℕ
record_count [] = 0
record_count (line ∷ rest) = record_count_at (role_of line) (record_count rest)
