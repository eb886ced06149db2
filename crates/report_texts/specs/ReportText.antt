-- What a report prints for a person, and a check with it.
use Rattle.std.specs.Prelude.{ℕ, Bool, List, Option, Some, None}
use Rattle.std.specs.List.{flat_map}
use Rattle.std.specs.Str.Lines.{lines}
use Rattle.cwr_report.specs.declared.finding.Finding.{Finding}
use Rattle.cwr_report.specs.declared.file_finding.FileFinding.{FileFinding}
use Rattle.cwr_report.specs.Report.{IsToldBy}
use Rattle.cwr_report.specs.Reported.{Reported}
use Rattle.report_texts.specs.FileText.{file_text}
use Rattle.report_texts.specs.LongText.{finding_text, long_text}

-- what a report on a file with these lines prints, given the fault for which the file is refused, if it is
abbrev pub text_of : List (List ℕ) → Reported → Option FileFinding → List ℕ
text_of text r None = long_text text r.findings r.transactions r.faulty
text_of text r (Some refused) = file_text text refused

-- what a report on a file with these lines prints
abbrev pub report_text : List (List ℕ) → Reported → List ℕ
report_text text r = text_of text r r.refused

-- what a report prints of the faults alone, without the last line of a well-formed file
abbrev pub faults_of : List (List ℕ) → List Finding → Option FileFinding → List ℕ
faults_of text findings None = flat_map (finding_text text) findings
faults_of text findings (Some refused) = file_text text refused

-- the same of a report on a file with these lines
abbrev pub faults_text : List (List ℕ) → Reported → List ℕ
faults_text text r = faults_of text r.findings r.refused

-- what a check prints for a person
abbrev pub IsLongCheck : List ℕ → List ℕ → Bool → Type 0
IsLongCheck bytes told clean = IsToldBy (λ b r. report_text (lines b) r) bytes told clean

-- what a check prints for a person of the faults alone
abbrev pub IsFaultsCheck : List ℕ → List ℕ → Bool → Type 0
IsFaultsCheck bytes told clean = IsToldBy (λ b r. faults_text (lines b) r) bytes told clean
