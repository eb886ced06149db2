-- What a report contains, independently of how it is stored.
use Rattle.std.specs.Prelude.{ℕ, Bool, ◌&&◌, ◌==◌, List, Option, is_none}
use Rattle.cwr_report.specs.declared.finding.Finding.{Finding}
use Rattle.cwr_report.specs.declared.file_finding.FileFinding.{FileFinding}

-- a report: the findings of a well-formed file, or the fault for which a file is refused
pub record Reported : Type 0 where
  -- in file order; an empty list where the file is refused
  pub findings : List Finding
  -- the number of transactions; 0 where the file is refused
  pub transactions : ℕ
  -- the number of transactions that have faults
  pub faulty : ℕ
  -- the first fault of a file that is not well-formed; `None` where it is
  pub refused : Option FileFinding

-- the file is not refused, and none of its transactions has a fault
abbrev pub is_clean : Reported → Bool
is_clean r = is_none r.refused && (r.faulty == 0)
