-- The page of a check.
use Rattle.std.specs.Prelude.{ℕ, ◌≡◌, ◌-◌, ◌==◌, Bool, List, [], ◌∷◌, ◌++◌, length, Option, Some, None, if◌then◌else◌}
use Rattle.std.specs.Io.KnownBytes.{Appends}
use Rattle.std.specs.Str.Lines.{lines}
use Rattle.cwr_report.specs.declared.file_finding.FileFinding.{FileFinding}
use Rattle.cwr_report.specs.declared.finding.Finding.{Finding}
use Rattle.cwr_report.specs.Report.{IsReport}
use Rattle.cwr_report.specs.Reported.{Reported, is_clean}
use Rattle.cwr_report.specs.Walks.{line_at}
use Rattle.cwr_remarks.specs.Checks.{remarks_on_file}
use Rattle.cwr_remarks.specs.declared.remark.Remark.{Remark}
use Rattle.html_text.specs.Pieces.{Piece, Fixed, page_text}
use Rattle.html_text.specs.declared.fragment.Fragment.TheVariants.{End, RemarksHead}
use Rattle.check_pages.specs.Facts.{fault_count, front_pieces, signs_pieces}
use Rattle.check_pages.specs.RefusedFiles.{refused_pieces}
use Rattle.check_pages.specs.RemarkSections.{remarks_pieces}
use Rattle.check_pages.specs.Sections.{findings_pieces}

-- the faults of a file with these lines
unfoldable pub faults_pieces : List (List ℕ) → List Finding → Option FileFinding → List Piece
faults_pieces lines findings None = findings_pieces lines findings [] findings
faults_pieces lines findings (Some f) = refused_pieces (line_at lines (f.line - 1)) f

-- the heading of the remarks, with what the signs in boxes are where it does not stand above faults
unfoldable pub remarks_head_pieces : ℕ → List Piece
remarks_head_pieces faults = Fixed RemarksHead ∷ (if faults == 0 then signs_pieces else [])

-- the remarks on a file with these lines and so many faults
unfoldable pub all_remarks_pieces : List (List ℕ) → ℕ → List Remark → List Piece
all_remarks_pieces lines faults [] = []
all_remarks_pieces lines faults (r ∷ rs) = remarks_head_pieces faults ++ remarks_pieces lines 0 (r ∷ rs)

-- the page of a check of a file with this name and these bytes
unfoldable pub check_page : List ℕ → List ℕ → Reported → List Remark → List Piece
check_page name bytes r remarks =
    front_pieces name (lines bytes) r (length remarks)
    ++ (faults_pieces (lines bytes) r.findings r.refused
    ++ (all_remarks_pieces (lines bytes) (fault_count r.findings r.refused) remarks ++ Fixed End ∷ []))

-- the page of some report on the file is written behind what was there, and it is known whether the file is clean
pub record IsCheckPage (name bytes : List ℕ) (old new : Option (List ℕ)) (clean : Bool) : Type 0 where
  pub reported : Reported
  pub report : IsReport bytes reported
  pub written : Appends old new (page_text (check_page name bytes reported (remarks_on_file bytes reported.refused)))
  pub clean_is : clean ≡ is_clean reported
