-- Where the pieces of the page of a check stand.
use Rattle.std.proofs.Common.{ℕ, ◌-◌, List, [], ◌∷◌, Option, Some, None, refl}
use Rattle.std.specs.Prelude.{◌==◌}
use Rattle.cwr_remarks.specs.declared.remark.Remark.{Remark}
use Rattle.cwr_report.specs.declared.file_finding.FileFinding.{FileFinding}
use Rattle.cwr_report.specs.declared.finding.Finding.{Finding}
use Rattle.cwr_report.specs.Reported.{Reported}
use Rattle.cwr_report.specs.Walks.{line_at}
use Rattle.html_text.specs.Fragments.{fragment_text}
use Rattle.html_text.proofs.lemmas.Contexts.{Keeps, behind_append, either}
use Rattle.check_pages.specs.CheckPages.{all_remarks_pieces, check_page, faults_pieces, remarks_head_pieces}
use Rattle.check_pages.specs.Facts.{signs_pieces}
use Rattle.check_pages.proofs.ContextsOfFacts.{front, signs}
use Rattle.check_pages.proofs.ContextsOfSections.{findings, refused, remarks}

faults : (lines : List (List ℕ)) (fs : List Finding) (f : Option FileFinding) → Keeps (faults_pieces lines fs f)
unfolding faults_pieces
faults lines fs None = findings lines fs [] fs
faults lines fs (Some f) = refused (line_at lines (f.line - 1)) f

remarks_head : (count : ℕ) → Keeps (remarks_head_pieces count)
unfolding remarks_head_pieces fragment_text
remarks_head count = either (count == 0) signs_pieces [] signs refl

all_remarks : (lines : List (List ℕ)) (count : ℕ) (rs : List Remark) → Keeps (all_remarks_pieces lines count rs)
unfolding all_remarks_pieces
all_remarks lines count [] = refl
all_remarks lines count (r ∷ rs) = simp (behind_append, remarks_head, remarks lines 0 (r ∷ rs)) refl

pub check : (name file : List ℕ) (r : Reported) (rs : List Remark) → Keeps (check_page name file r rs)
unfolding check_page fragment_text
check name file r rs = simp (behind_append, front, faults, all_remarks) refl
