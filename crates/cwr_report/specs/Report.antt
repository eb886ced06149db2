-- The report on a file: its findings, or its first fault.
use Rattle.std.specs.Prelude.{ℕ, ◌≡◌, ◌⊎◌, Bool, List, [], length, Some, None}
use Rattle.std.specs.Str.Lines.{lines}
use Rattle.cwr_grammar.specs.Faults.{IsLeastFault}
use Rattle.cwr_grammar.specs.File.{File, IsFile}
use Rattle.cwr_grammar.specs.RawParts.{raws_of}
use Rattle.cwr_check.specs.CheckText.{submitter_of, faulty_count}
use Rattle.cwr_report.specs.Findings.{findings_after}
use Rattle.cwr_report.specs.FileFindings.{file_finding}
use Rattle.cwr_report.specs.Reported.{Reported, is_clean}

-- the report on a well-formed file: every fault of every transaction, in order, and the numbers of transactions and of
-- those that have faults
pub record IsReportOfFile (text : List (List ℕ)) (r : Reported) : Type 0 where
  pub file : File
  pub formed : IsFile text file
  pub findings_are : r.findings ≡ findings_after (submitter_of file) 0 (raws_of 1 file.groups)
  pub all_is : r.transactions ≡ length (raws_of 1 file.groups)
  pub faulty_is : r.faulty ≡ faulty_count (submitter_of file) (raws_of 1 file.groups)
  pub not_refused : r.refused ≡ None

-- the report on any other file: its first fault alone
pub record IsReportOfFault (bytes : List ℕ) (r : Reported) : Type 0 where
  pub number : ℕ
  pub line : ℕ
  pub fault : IsLeastFault (lines bytes) line number
  pub refused_is : r.refused ≡ Some (file_finding bytes number line)
  pub none : r.findings ≡ []
  pub all_is : r.transactions ≡ 0
  pub faulty_is : r.faulty ≡ 0

-- the report on a file with these bytes
abbrev pub IsReport : List ℕ → Reported → Type 0
IsReport bytes r = IsReportOfFile (lines bytes) r ⊎ IsReportOfFault bytes r

-- what a check of a file with these bytes prints, and whether the file is clean, where `tells` gives the text of a
-- report
pub record IsToldBy (tells : List ℕ → Reported → List ℕ) (bytes : List ℕ) (told : List ℕ) (clean : Bool) : Type 0 where
  pub reported : Reported
  pub report : IsReport bytes reported
  pub told_is : told ≡ tells bytes reported
  pub clean_is : clean ≡ is_clean reported
