-- The roles of the lines of a file with these groups, of each of which the details of each transaction are counted.
use Rattle.std.specs.Prelude.{ℕ, ◌+◌, true, List, [], ◌∷◌, ◌++◌, length, map, Option, Some}
use Rattle.std.specs.List.{range_with_len}
use Rattle.cwr_record.specs.declared.works.WorkKind.{WorkKind}
use Rattle.cwr_grammar.specs.declared.role.Role.{Role}
use Rattle.cwr_grammar.specs.declared.role.Role.TheVariants.{FileHeader, GroupHeader, TransactionHeader, Detail, GroupTrailer, FileTrailer}
use Rattle.cwr_grammar.specs.FirstFault.{at_line, or_else, role_fault, fault_at_end}

-- the first fault that roles alone show
abbrev pub first_role_fault : List Role → List Role → Option (ℕ × ℕ)
first_role_fault before [] = at_line (length before + 1) (fault_at_end before)
first_role_fault before (role ∷ rest) = or_else (at_line (length before + 1) (role_fault before role)) (first_role_fault (role ∷ before) rest)

-- a group by its kind and, of each transaction, the number of its details
pub record Group : Type 0 where
  pub kind : WorkKind
  pub details : List ℕ

-- the transaction j, from 0, with n details
abbrev pub transaction : WorkKind → ℕ → ℕ → List Role
transaction kind j n = TransactionHeader (Some kind) (Some j) (Some 0) ∷ map (λ d. Detail (Some j) (Some d)) (range_with_len 1 n)

abbrev pub transactions_from : WorkKind → ℕ → List ℕ → List Role
transactions_from kind j [] = []
transactions_from kind j (n ∷ ns) = transaction kind j n ++ transactions_from kind (j + 1) ns

-- how many lines transactions with these details have
abbrev pub size : List ℕ → ℕ
size [] = 0
size (n ∷ ns) = n + 1 + size ns

-- of all groups
abbrev pub all_transactions_of : List Group → ℕ
all_transactions_of [] = 0
all_transactions_of (g ∷ gs) = length g.details + all_transactions_of gs

abbrev pub all_lines_of : List Group → ℕ
all_lines_of [] = 0
all_lines_of (g ∷ gs) = size g.details + 2 + all_lines_of gs

-- the group i, from 1
abbrev pub group_text : ℕ → Group → List Role
group_text i g =
    GroupHeader (Some g.kind) (Some i)
    ∷ transactions_from g.kind 0 g.details
    ++ GroupTrailer (Some i) (Some (length g.details)) (Some (2 + size g.details)) ∷ []

abbrev pub groups_from : ℕ → List Group → List Role
groups_from i [] = []
groups_from i (g ∷ gs) = group_text i g ++ groups_from (i + 1) gs

abbrev pub envelope : List Group → List Role
envelope gs =
    FileHeader true
    ∷ groups_from 1 gs
    ++ FileTrailer (Some (length gs)) (Some (all_transactions_of gs)) (Some (2 + all_lines_of gs)) ∷ []
