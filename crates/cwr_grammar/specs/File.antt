-- A well-formed file (CWR 2.2, HDR to TRL), as a relation between its lines and its parts. There are no counters
-- here: only lengths and indexes of lists.
use Rattle.std.specs.Prelude.{ℕ, ◌+◌, ◌≡◌, true, false, List, [], ◌∷◌, ◌++◌, length, Some}
use Rattle.std.specs.List.{AllByRecursion}
use Rattle.cwr_record.specs.declared.works.WorkKind.{WorkKind}
use Rattle.cwr_grammar.specs.declared.role.Role.TheVariants.{FileHeader, GroupHeader, TransactionHeader, Detail, GroupTrailer, FileTrailer}
use Rattle.cwr_grammar.specs.Roles.{role_of}
use Rattle.cwr_grammar.specs.FaultTests.{is_tail, has_control, is_long}

-- a group: its transaction type, its GRH line, the lines of each of its transactions, and its GRT line
pub record FileGroup : Type 0 where
  pub kind : WorkKind
  pub head : List ℕ
  pub transactions : List (List (List ℕ))
  pub trailer : List ℕ

-- a file: its HDR line, its groups, its TRL line, and the lines after the TRL
pub record File : Type 0 where
  pub header : List ℕ
  pub groups : List FileGroup
  pub trailer : List ℕ
  pub tail : List (List ℕ)

-- the lists of lines, one after another
abbrev pub joined : List (List (List ℕ)) → List (List ℕ)
joined [] = []
joined (part ∷ parts) = part ++ joined parts

-- the lines of a group from GRH to GRT
abbrev pub lines_of_group : FileGroup → List (List ℕ)
lines_of_group g = g.head ∷ joined g.transactions ++ g.trailer ∷ []

-- the lines of groups, one group after another
abbrev pub lines_of_groups : List FileGroup → List (List ℕ)
lines_of_groups [] = []
lines_of_groups (g ∷ gs) = lines_of_group g ++ lines_of_groups gs

-- the lines from HDR to TRL
abbrev pub records_of : File → List (List ℕ)
records_of f = f.header ∷ lines_of_groups f.groups ++ f.trailer ∷ []

-- the number of transactions of the groups
abbrev pub transactions_in : List FileGroup → ℕ
transactions_in [] = 0
transactions_in (g ∷ gs) = length g.transactions + transactions_in gs

-- the lines are details of transaction j, with record sequences from d on, each one more than the one before
abbrev pub AreDetails : ℕ → ℕ → List (List ℕ) → Type 0
AreDetails j d [] = Unit {0}
AreDetails j d (line ∷ lines) = (role_of line ≡ Detail (Some j) (Some d)) × AreDetails j (d + 1) lines

-- the lines are transaction j, from 0, of a group: a header of the group's kind, then details from record sequence 1
-- on
abbrev pub IsTransaction : WorkKind → ℕ → List (List ℕ) → Type 0
IsTransaction kind j [] = ⊥
IsTransaction kind j (line ∷ lines) = (role_of line ≡ TransactionHeader (Some kind) (Some j) (Some 0)) × AreDetails j 1 lines

-- the lists of lines are the transactions of a group, numbered from j on
abbrev pub AreTransactions : WorkKind → ℕ → List (List (List ℕ)) → Type 0
AreTransactions kind j [] = Unit {0}
AreTransactions kind j (t ∷ ts) = IsTransaction kind j t × AreTransactions kind (j + 1) ts

-- this is group i, counted from 1: its transactions are numbered from 0, and its GRT has their number and, with GRH
-- and GRT, the number of its records
pub record IsGroup (i : ℕ) (g : FileGroup) : Type 0 where
  pub head : role_of g.head ≡ GroupHeader (Some g.kind) (Some i)
  pub transactions : AreTransactions g.kind 0 g.transactions
  pub trailer : role_of g.trailer ≡ GroupTrailer (Some i) (Some (length g.transactions)) (Some (2 + length (joined g.transactions)))

-- the groups are numbered from i on
abbrev pub AreGroups : ℕ → List FileGroup → Type 0
AreGroups i [] = Unit {0}
AreGroups i (g ∷ gs) = IsGroup i g × AreGroups (i + 1) gs

-- a line without a byte below 32, of at most 4096 bytes
abbrev pub IsPlain : List ℕ → Type 0
IsPlain line = (has_control line ≡ false) × (is_long line ≡ false)

-- the lines of a text are those of a well-formed file: its TRL has the numbers of its groups, transactions and
-- records, and the lines after the TRL hold blanks and bytes 26 alone
pub record IsFile (text : List (List ℕ)) (f : File) : Type 0 where
  -- they are those from HDR to TRL, and then the tail
  pub lines : text ≡ records_of f ++ f.tail
  -- an HDR with valid dates and a valid time
  pub header : role_of f.header ≡ FileHeader true
  pub groups : AreGroups 1 f.groups
  pub trailer : role_of f.trailer ≡ FileTrailer (Some (length f.groups)) (Some (transactions_in f.groups)) (Some (length (records_of f)))
  -- no line up to TRL has a byte below 32, or more than 4,096 bytes
  pub plain : AllByRecursion IsPlain (records_of f)
  pub tail : AllByRecursion (λ line. is_tail line ≡ true) f.tail
