-- No count passes the number of lines.
use Rattle.std.proofs.Common.{◌≡◌, ◌<◌, ◌^◌, List, length, arith}
use Rattle.cwr_grammar.specs.declared.role.Role.{Role}
use Rattle.cwr_grammar.specs.declared.file_counts.FileCounts.{FileCounts}
use Rattle.cwr_grammar.specs.Before.{group_lines, is_group_header, is_transaction_header}
use Rattle.cwr_grammar.specs.Counted.{counts_of, AreSmall}
use Rattle.cwr_grammar.proofs.lemmas.Few.{length-since-le, length-filter-le}

pub are_small : (before : List Role) → length before < 2 ^ 63 → AreSmall (counts_of before)
are_small before lt = record {
  lines = lt;
  groups = length-filter-le is_group_header before;
  group_lines = length-since-le is_group_header before;
  details = omega (arith, length-since-le is_transaction_header (group_lines before), length-since-le is_group_header before);
  transactions = omega (arith, length-filter-le is_transaction_header (group_lines before), length-since-le is_group_header before);
  all = length-filter-le is_transaction_header before;
}

pub small_from : (before : List Role) (s : FileCounts) → s ≡ counts_of before → length before < 2 ^ 63 → AreSmall s
small_from before s is lt = rw is (are_small before lt)
