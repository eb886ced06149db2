-- What is counted while a file is read, and its values after given lines.
use Rattle.std.specs.Prelude.{◌<◌, ◌≤◌, ◌^◌, List, length}
use Rattle.cwr_grammar.specs.declared.role.Role.{Role}
use Rattle.cwr_grammar.specs.declared.role.Role.TheVariants.{TransactionHeader}
use Rattle.cwr_grammar.specs.declared.file_counts.FileCounts.{FileCounts}
use Rattle.cwr_grammar.specs.Before.{in_group, in_transaction, group_kind, groups, transactions, all_transactions, group_lines, transaction_lines, is_ended}

-- the counts after the lines before, the newest first
abbrev pub counts_of : List Role → FileCounts
counts_of before = record {
  lines = length before;
  groups = groups before;
  all_transactions = all_transactions before;
  is_ended = is_ended before;
  in_group = in_group before;
  kind = group_kind before;
  group_lines = length (group_lines before);
  transactions = transactions before;
  in_transaction = in_transaction before;
  details = length (transaction_lines before);
}

-- no count is above the number of lines, which is below 2 ^ 63
pub record AreSmall (s : FileCounts) : Type 0 where
  pub lines : s.lines < 2 ^ 63
  pub groups : s.groups ≤ s.lines
  pub group_lines : s.group_lines ≤ s.lines
  pub details : s.details ≤ s.lines
  pub transactions : s.transactions ≤ s.lines
  -- the transactions of the file
  pub all : s.all_transactions ≤ s.lines

-- where the line begins a transaction, the number of groups has at most five digits, and that of the transactions
-- before it in the group at most eight
abbrev pub FitsHeader : Role → FileCounts → Type 0
FitsHeader (TransactionHeader kind transaction place) s = (s.groups < 10 ^ 5) × (s.transactions < 10 ^ 8)
FitsHeader _ s = Unit {0}
