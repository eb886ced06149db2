-- What the lines before a line say, by their roles, the newest first. Each question is answered from the list alone.
use Rattle.std.specs.Prelude.{ℕ, Bool, true, false, not, ◌&&◌, List, [], ◌∷◌, length, filter, find, Option, None, option_and_then, if◌then◌else◌}
use Rattle.std.specs.List.{list_any}
use Rattle.cwr_record.specs.declared.works.WorkKind.{WorkKind}
use Rattle.cwr_grammar.specs.declared.role.Role.{Role}
use Rattle.cwr_grammar.specs.declared.role.Role.TheVariants.{GroupHeader, TransactionHeader, GroupTrailer, FileTrailer}

-- the line is a GRH
abbrev pub is_group_header : Role → Bool
is_group_header (GroupHeader kind group) = true
is_group_header _ = false

-- the line is a GRT
abbrev pub is_group_trailer : Role → Bool
is_group_trailer (GroupTrailer group transactions records) = true
is_group_trailer _ = false

-- the line is the header of a transaction
abbrev pub is_transaction_header : Role → Bool
is_transaction_header (TransactionHeader kind transaction place) = true
is_transaction_header _ = false

-- the line is a TRL
abbrev pub is_file_trailer : Role → Bool
is_file_trailer (FileTrailer groups transactions records) = true
is_file_trailer _ = false

-- the transaction type of a GRH, NWR or REV; `None` for another type, and for any other line
abbrev pub kind_of : Role → Option WorkKind
kind_of (GroupHeader kind group) = kind
kind_of _ = None

-- there is no line before
abbrev pub is_nil : List Role → Bool
is_nil [] = true
is_nil (role ∷ before) = false

-- the lines after the last one that passes the test, or all where none does; the newest first
abbrev pub since : (Role → Bool) → List Role → List Role
since p [] = []
since p (role ∷ before) = if p role then [] else role ∷ since p before

-- the lines after the last GRH, or all where there is none
abbrev pub group_lines : List Role → List Role
group_lines before = since is_group_header before

-- the lines after the last transaction's header in the last group, or all lines of the group
abbrev pub transaction_lines : List Role → List Role
transaction_lines before = since is_transaction_header (group_lines before)

-- a group is open: there is a GRH, and no GRT since
abbrev pub in_group : List Role → Bool
in_group before = list_any is_group_header before && not (list_any is_group_trailer (group_lines before))

-- the last group has a transaction's header
abbrev pub in_transaction : List Role → Bool
in_transaction before = list_any is_transaction_header (group_lines before)

-- the transaction type of the last group, NWR or REV; `None` where it has another one, or where there is no group
abbrev pub group_kind : List Role → Option WorkKind
group_kind before = option_and_then kind_of (find is_group_header before)

-- the number of groups that began
abbrev pub groups : List Role → ℕ
groups before = length (filter is_group_header before)

-- the number of transactions that began in the last group
abbrev pub transactions : List Role → ℕ
transactions before = length (filter is_transaction_header (group_lines before))

-- the number of transactions that began in the file
abbrev pub all_transactions : List Role → ℕ
all_transactions before = length (filter is_transaction_header before)

-- the file ended: there is a TRL
abbrev pub is_ended : List Role → Bool
is_ended before = list_any is_file_trailer before
