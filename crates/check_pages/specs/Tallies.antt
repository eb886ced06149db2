-- Numbers of findings by rule.
use Rattle.std.specs.Prelude.{ℕ, ◌≡◌, ◌<◌, List, get_or, length}
use Rattle.std.specs.List.{count_by}
use Rattle.cwr_report.specs.declared.finding.Finding.{Finding}
use Rattle.check_pages.specs.Sections.{is_of}

-- the numbers of these findings, for each of 256 numbers of rules
pub record IsTally (counts : List ℕ) (findings : List Finding) : Type 0 where
  pub size : length counts ≡ 256
  pub each : (n : ℕ) → n < 256 → get_or counts n 0 ≡ count_by (is_of n) findings
