-- What a check prints of a file: its report, and then its remarks.
use Rattle.std.specs.Prelude.{ℕ, Bool, List, ◌++◌, codes, Option, Some, None}
use Rattle.std.specs.Str.Lines.{lines}
use Rattle.serde_json.specs.Data.{object, put}
use Rattle.cwr_report.specs.declared.file_finding.FileFinding.{FileFinding}
use Rattle.cwr_report.specs.Report.{IsToldBy}
use Rattle.cwr_report.specs.Reported.{Reported}
use Rattle.report_texts.specs.ReportText.{report_text}
use Rattle.report_json.specs.Json.{json_line, report_members, with_file}
use Rattle.cwr_remarks.specs.declared.remark.Remark.{Remark}
use Rattle.cwr_remarks.specs.Beginnings.{beginning, on_beginning}
use Rattle.cwr_remarks.specs.Headers.{header_remarks}
use Rattle.cwr_remarks.specs.Json.{remarks_data}
use Rattle.cwr_remarks.specs.Remarks.{remarks_from, remarks_to}
use Rattle.cwr_remarks.specs.SecondFile.{second_file}
use Rattle.cwr_remarks.specs.Texts.{remarks_text}

-- The remarks on the file as a whole, at line 1: what it begins with, and what its HDR says it is. They are made
-- whether that line is faulty or not.
abbrev pub front_remarks : List ℕ → List Remark
front_remarks bytes = on_beginning (beginning bytes) ++ header_remarks (lines bytes)

-- the remarks on the lines of a file; of one that is refused, those on the lines before the faulty one, and of the
-- faulty one only that a second file begins there
abbrev pub remarks_on_lines : List (List ℕ) → Option FileFinding → List Remark
remarks_on_lines text None = remarks_from 1 text
remarks_on_lines text (Some refused) = remarks_to refused.line 1 text ++ second_file refused

-- all remarks on a file: on the file as a whole, and then on its lines
abbrev pub remarks_on_file : List ℕ → Option FileFinding → List Remark
remarks_on_file bytes refused = front_remarks bytes ++ remarks_on_lines (lines bytes) refused

-- what a check prints for a person: the report, and the remarks behind it
abbrev pub remarked_text : List ℕ → Reported → List ℕ
remarked_text bytes r = report_text (lines bytes) r ++ remarks_text (remarks_on_file bytes r.refused)

-- what a check prints as JSON: the object of the report, with the file's name where it is given, and one member more
abbrev pub remarked_object : Option (List ℕ) → List ℕ → Reported → List ℕ
remarked_object file bytes r =
    json_line (object (put (codes "remarks") (remarks_data (remarks_on_file bytes r.refused)) (with_file file (report_members (lines bytes) r))))

-- what a check with remarks prints for a person, and whether the file is clean
abbrev pub IsRemarkedLong : List ℕ → List ℕ → Bool → Type 0
IsRemarkedLong bytes told clean = IsToldBy remarked_text bytes told clean

-- what a check with remarks prints as JSON, and whether the file is clean
abbrev pub IsRemarkedJson : List ℕ → List ℕ → Bool → Type 0
IsRemarkedJson bytes told clean = IsToldBy (remarked_object None) bytes told clean

-- the same for a file with this name, which is one member more
abbrev pub IsRemarkedJsonOfFile : List ℕ → List ℕ → List ℕ → Bool → Type 0
IsRemarkedJsonOfFile name bytes told clean = IsToldBy (remarked_object (Some name)) bytes told clean
