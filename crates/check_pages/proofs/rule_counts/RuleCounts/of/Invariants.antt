use Rattle.std.proofs.Common.{◌≡◌, ◌+◌, ◌<◌, ℕ, get_or, length, drop, count_by}
use Rattle.check_pages.specs.Sections.{is_of}
use Rattle.check_pages.proofs.rule_counts.RuleCounts.of.Given as goal

-- what is counted and what is left make the whole
abbrev pub invariant-loop-finding : goal.invariant-loop-finding
invariant-loop-finding l = record {
  size : length l.tally.counts ≡ 256;
  each : (n : ℕ) → n < 256 → get_or l.tally.counts n 0 + count_by (is_of n) (drop l.finding-index l.findings) ≡ count_by (is_of n) l.findings;
}
