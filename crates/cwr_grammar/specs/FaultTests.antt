-- The faults F1 to F12 of a line after the lines before it, one test each. The lines before stand the newest first.
use Rattle.std.specs.Prelude.{ℕ, ◌+◌, Bool, true, false, not, ◌&&◌, ◌||◌, ◌==◌, nat_lt, List, [], ◌∷◌, length, map, Option, Some, None}
use Rattle.std.specs.List.{list_all}
use Rattle.cwr_field.specs.Layout.{is_printable}
use Rattle.cwr_record.specs.declared.works.WorkKind.{WorkKind}
use Rattle.cwr_record.specs.declared.works.WorkKind.TheVariants.{Nwr, Rev}
use Rattle.cwr_grammar.specs.declared.role.Role.{Role}
use Rattle.cwr_grammar.specs.declared.role.Role.TheVariants.{FileHeader, GroupHeader, TransactionHeader, Detail, GroupTrailer, FileTrailer, Unnamed}
use Rattle.cwr_grammar.specs.Before.{is_nil, in_group, in_transaction, group_kind, groups, transactions, all_transactions, group_lines, transaction_lines, is_ended}
use Rattle.cwr_grammar.specs.Roles.{role_of}

-- the field held a number, `Some`, and it is n
abbrev pub is_number : Option ℕ → ℕ → Bool
is_number None n = false
is_number (Some m) n = m == n

-- the line is an HDR
abbrev pub is_file_header : Role → Bool
is_file_header (FileHeader valid) = true
is_file_header _ = false

-- both kinds are known, and they are the same
abbrev pub same_kind : Option WorkKind → Option WorkKind → Bool
same_kind (Some Nwr) (Some Nwr) = true
same_kind (Some Rev) (Some Rev) = true
same_kind _ _ = false

-- the number and one more; `None` where there is none
abbrev pub option_next : Option ℕ → Option ℕ
option_next None = None
option_next (Some n) = Some (n + 1)

-- F1: the first line of the file is no HDR
abbrev pub is_headless : List Role → Role → Bool
is_headless before role = is_nil before && not (is_file_header role)

-- F2: the line has a byte below 32
abbrev pub has_control : List ℕ → Bool
has_control line = not (is_printable line)

-- F3: the line has no record type; or it is the HDR of the first line, and a date or time of it is not valid
abbrev pub is_malformed : List Role → Role → Bool
is_malformed before Unnamed = true
is_malformed before (FileHeader valid) = is_nil before && not valid
is_malformed before _ = false

-- F4: the record's type may not stand there: HDR only first, GRH and TRL outside a group, GRT and transactions inside
-- one, details inside a transaction
abbrev pub is_misplaced : List Role → Role → Bool
is_misplaced before (FileHeader valid) = not (is_nil before)
is_misplaced before (GroupHeader kind group) = in_group before
is_misplaced before (TransactionHeader kind transaction place) = not (in_group before)
is_misplaced before (Detail transaction place) = not (in_group before && in_transaction before)
is_misplaced before (GroupTrailer group all records) = not (in_group before)
is_misplaced before (FileTrailer all_groups all records) = in_group before
is_misplaced before Unnamed = false

-- F5: a GRH whose transaction type is neither NWR nor REV
abbrev pub is_foreign : Role → Bool
is_foreign (GroupHeader None group) = true
is_foreign _ = false

-- F6: a transaction's header of another type than that of its group
abbrev pub is_mixed : List Role → Role → Bool
is_mixed before (TransactionHeader kind transaction place) = not (same_kind kind (group_kind before))
is_mixed before _ = false

-- F7: a GRH whose group id is not 1 plus the number of groups before it, or a GRT whose is not that of its group,
-- which is the number of groups that began
abbrev pub is_misnumbered_group : List Role → Role → Bool
is_misnumbered_group before (GroupHeader kind group) = not (is_number group (groups before + 1))
is_misnumbered_group before (GroupTrailer group all records) = not (is_number group (groups before))
is_misnumbered_group before _ = false

-- F8: a transaction's header whose transaction sequence is not the number of transactions before it in the group, or
-- whose record sequence is not 0; a detail whose transaction sequence is not that of its header, which is the number
-- of the transactions that began, less one, or whose record sequence is not the number of records before it in the
-- transaction
abbrev pub is_misnumbered : List Role → Role → Bool
is_misnumbered before (TransactionHeader kind transaction place) = not (is_number transaction (transactions before) && is_number place 0)
is_misnumbered before (Detail transaction place) =
    not (is_number (option_next transaction) (transactions before) && is_number place (length (transaction_lines before) + 1))
is_misnumbered before _ = false

-- F9: a GRT whose transaction count is not that of the group, or whose record count is not the number of records
-- from GRH to GRT, both included
abbrev pub is_miscounted_group : List Role → Role → Bool
is_miscounted_group before (GroupTrailer group all records) =
    not (is_number all (transactions before) && is_number records (length (group_lines before) + 2))
is_miscounted_group before _ = false

-- F10: a TRL whose group, transaction or record count is not that of the file, HDR and TRL included
abbrev pub is_miscounted_file : List Role → Role → Bool
is_miscounted_file before (FileTrailer all_groups all records) =
    not (is_number all_groups (groups before) && is_number all (all_transactions before) && is_number records (length before + 1))
is_miscounted_file before _ = false

-- The line may stand after TRL: it holds blanks and bytes 26 alone. Where it may not, the fault is F11.
abbrev pub is_tail : List ℕ → Bool
is_tail line = list_all (λ b. b == 32 || b == 26) line

-- F12: the line has more than 4096 bytes
abbrev pub is_long : List ℕ → Bool
is_long line = nat_lt 4096 (length line)

-- there is a TRL among the lines before
abbrev pub is_after_end : List (List ℕ) → Bool
is_after_end before = is_ended (map role_of before)

-- each fault by its number, and whether the line has it; after a TRL there can be F11 alone
abbrev pub rows : Bool → Bool → Bool → Bool → List Role → Role → List (ℕ × Bool)
rows ended control long tail before role =
    (1, not ended && is_headless before role)
    ∷ (2, not ended && control)
    ∷ (3, not ended && is_malformed before role)
    ∷ (4, not ended && is_misplaced before role)
    ∷ (5, not ended && is_foreign role)
    ∷ (6, not ended && is_mixed before role)
    ∷ (7, not ended && is_misnumbered_group before role)
    ∷ (8, not ended && is_misnumbered before role)
    ∷ (9, not ended && is_miscounted_group before role)
    ∷ (10, not ended && is_miscounted_file before role)
    ∷ (11, ended && not tail)
    ∷ (12, not ended && long)
    ∷ []

-- each fault by its number, and whether the line has it after the lines before it, the newest first
abbrev pub rows_of : List (List ℕ) → List ℕ → List (ℕ × Bool)
rows_of before line =
    rows (is_after_end before) (has_control line) (is_long line) (is_tail line) (map role_of before) (role_of line)

-- the faults of the end of the file, after the lines before it: F1 where there is no line, F11 where there is no TRL
abbrev pub rows_at_end : List (List ℕ) → List (ℕ × Bool)
rows_at_end before = (1, is_nil (map role_of before)) ∷ (11, not (is_after_end before)) ∷ []
