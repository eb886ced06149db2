-- A transaction as it stands in a file.
use Rattle.std.specs.Prelude.{ℕ, ◌+◌, ◌≤◌, ◌<◌, ◌^◌, IsTrue, List, [], ◌∷◌, ◌++◌, length}
use Rattle.std.specs.List.{AllByRecursion}
use Rattle.cwr_field.specs.Layout.{is_printable}
use Rattle.cwr_field.specs.Number.{max_count}
use Rattle.cwr_record.specs.declared.works.WorkKind.{WorkKind}
use Rattle.cwr_grammar.specs.File.{FileGroup}

-- a transaction with its lines as they stand in the file
pub record RawParts : Type 0 where
  -- the group ID, from 1
  pub group : ℕ
  -- the transaction sequence in its group, from 0
  pub sequence : ℕ
  pub kind : WorkKind
  -- the header's line, and then the details, in file order
  pub lines : List (List ℕ)

-- where every transaction of a well-formed file stands: its group id has five digits and its sequence eight, and it
-- has some lines
pub record IsPlaced (transaction : RawParts) : Type 0 where
  pub group : transaction.group < 10 ^ 5
  pub sequence : transaction.sequence < 10 ^ 8
  pub some : 0 < length transaction.lines

-- what is true of the lines of every transaction of a well-formed file: there is at least one, no more than eight
-- digits count, and none has a byte below 32
pub record IsTransactionText (lines : List (List ℕ)) : Type 0 where
  pub some : 0 < length lines
  pub few : length lines ≤ max_count
  pub printable : AllByRecursion (λ line. IsTrue (is_printable line)) lines

-- the number of lines of the transactions
abbrev pub lines_in : List RawParts → ℕ
lines_in [] = 0
lines_in (t ∷ ts) = length t.lines + lines_in ts

-- the transactions of group g, with their lines, numbered from t on
abbrev pub raws_of_group : ℕ → ℕ → WorkKind → List (List (List ℕ)) → List RawParts
raws_of_group g t kind [] = []
raws_of_group g t kind (part ∷ parts) = record { group = g; sequence = t; kind = kind; lines = part } ∷ raws_of_group g (t + 1) kind parts

-- the transactions of the groups, in file order, where the first group has number i
abbrev pub raws_of : ℕ → List FileGroup → List RawParts
raws_of i [] = []
raws_of i (g ∷ gs) = raws_of_group i 0 g.kind g.transactions ++ raws_of (i + 1) gs
