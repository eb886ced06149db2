-- Where the pieces of sections stand.
use Rattle.std.proofs.Common.{◌≡◌, ◌∙◌, ℕ, Bool, true, false, cond, List, [], ◌∷◌, ◌++◌, length, Option, Some, None, refl, ap}
use Rattle.std.specs.Prelude.{◌==◌, nat_lt}
use Rattle.cwr_record.specs.declared.columns.Column.{Column}
use Rattle.cwr_remarks.specs.declared.remark.Remark.{Remark}
use Rattle.cwr_remarks.specs.declared.remark.Remarked.{Remarked}
use Rattle.cwr_report.specs.declared.file_finding.FileFinding.{FileFinding}
use Rattle.cwr_report.specs.declared.file_finding.RecordPlace.{RecordPlace}
use Rattle.cwr_report.specs.declared.file_finding.RecordPlace.TheVariants.{End}
use Rattle.cwr_report.specs.declared.file_finding.WrongByte.{WrongByte}
use Rattle.cwr_report.specs.declared.finding.Finding.{Finding}
use Rattle.report_texts.specs.FileText.{detail_text, place_text}
use Rattle.html_text.specs.Contexts.{Context, Text, behind, behind_piece}
use Rattle.html_text.specs.Fragments.{fragment_text}
use Rattle.html_text.specs.Pieces.{Fixed, Number}
use Rattle.html_text.specs.declared.fragment.Fragment.{Fragment}
use Rattle.html_text.specs.declared.fragment.Fragment.TheVariants as fragment
use Rattle.html_text.proofs.lemmas.Contexts.{Keeps, behind_append, both, bytes, either, text}
use Rattle.check_pages.specs.Boxes.{line_shown, most_places, places}
use Rattle.check_pages.specs.RefusedFiles.{begin_of_mark, file_box_pieces, file_columns, file_heading_pieces, refused_pieces}
use Rattle.check_pages.specs.RemarkSections.{line_of_first as line_of_first_remark, remark_closed_pieces, remark_columns_from, remark_heading_pieces, remark_opened_pieces, remark_opening_pieces, remark_pieces, remarked_pieces, remarks_pieces, type_pieces}
use Rattle.check_pages.specs.Sections.{box_pieces, closed_pieces, columns_from, cut_pieces, finding_pieces, findings_pieces, heading_pieces, line_of_first, opened_pieces, opening_pieces, place_pieces}
use Rattle.check_pages.proofs.ContextsOfLines.{line}
use Rattle.check_pages.proofs.ContextsOfFaults.{fault, file_fault}

cut : (size : ℕ) → Keeps (cut_pieces size)
unfolding cut_pieces fragment_text
cut size = either (nat_lt most_places size) (Fixed fragment.Cut ∷ Number size ∷ Fixed fragment.PEnd ∷ []) [] refl refl

box_begin : (long : Bool) → behind_piece Text (Fixed (cond long fragment.PreLong fragment.Pre)) ≡ Text
unfolding fragment_text
box_begin true = refl
box_begin false = refl

box : (l : List ℕ) (spots : List Column) (begin : Fragment) → Keeps (Fixed begin ∷ []) → Keeps (box_pieces l spots begin)
unfolding box_pieces fragment_text
box l spots begin first =
    ap (λ (c : Context). behind c (line_shown l spots begin ++ Fixed fragment.PreEnd ∷ cut_pieces (length l))) (box_begin (nat_lt 240 (places (length l) spots)))
    ∙ both (line_shown l spots begin) (Fixed fragment.PreEnd ∷ cut_pieces (length l)) (line l spots begin first) (cut (length l))

place : (number : ℕ) (t : List ℕ) → Keeps (place_pieces number t)
unfolding place_pieces fragment_text
place number t = simp (behind_append, text) refl

heading : (f : Finding) → Keeps (heading_pieces f)
unfolding heading_pieces
heading f = place f.line (detail_text f.fault.rtype f.group f.transaction f.fault.sequence)

opening : (l : List ℕ) (f : Finding) (later : List Finding) → Keeps (opening_pieces l f later)
unfolding opening_pieces fragment_text
opening l f later = both (heading_pieces f) (box_pieces l (columns_from f later) fragment.Mark) (heading f) (box l (columns_from f later) fragment.Mark refl)

opened : (l : List ℕ) (before : ℕ) (f : Finding) (later : List Finding) → Keeps (opened_pieces l before f later)
unfolding opened_pieces
opened l before f later = either (f.line == before) [] (opening_pieces l f later) refl (opening l f later)

closed : (number : ℕ) (later : List Finding) → Keeps (closed_pieces number later)
unfolding closed_pieces fragment_text
closed number later = either (number == line_of_first later) [] (Fixed fragment.SectionEnd ∷ []) refl refl

finding : (l : List ℕ) (before k total : ℕ) (f : Finding) (later : List Finding) → Keeps (finding_pieces l before k total f later)
unfolding finding_pieces
finding l before k total f later = simp (behind_append, opened, fault, closed) refl

pub findings : (lines : List (List ℕ)) (all earlier later : List Finding) → Keeps (findings_pieces lines all earlier later)
unfolding findings_pieces
findings lines all earlier [] = refl
findings lines all earlier (f ∷ later) =
    simp (behind_append, finding, findings lines all (f ∷ earlier) later) refl

mark_begin : (wrong : Option WrongByte) → Keeps (Fixed (begin_of_mark wrong) ∷ [])
unfolding fragment_text
mark_begin None = refl
mark_begin (Some wrong) = refl

file_box : (where_found : RecordPlace) (l : List ℕ) (f : FileFinding) → Keeps (file_box_pieces where_found l f)
unfolding file_box_pieces
file_box End l f = refl
file_box _ l f = box l (file_columns f) (begin_of_mark f.byte) (mark_begin f.byte)

file_heading : (f : FileFinding) → Keeps (file_heading_pieces f)
unfolding file_heading_pieces
file_heading f = place f.line (place_text f.rtype f.place)

pub refused : (l : List ℕ) (f : FileFinding) → Keeps (refused_pieces l f)
unfolding refused_pieces fragment_text
refused l f = simp (behind_append, file_heading, file_box, file_fault) refl

type : (rtype : Option (List ℕ)) → Keeps (type_pieces rtype)
unfolding type_pieces fragment_text
type None = refl
type (Some rtype) = bytes rtype

remark_heading : (r : Remark) → Keeps (remark_heading_pieces r)
unfolding remark_heading_pieces fragment_text
remark_heading r = simp (behind_append, type) refl

remark_opening : (l : List ℕ) (r : Remark) (later : List Remark) → Keeps (remark_opening_pieces l r later)
unfolding remark_opening_pieces fragment_text
remark_opening l r later =
    both (remark_heading_pieces r) (box_pieces l (remark_columns_from r later) fragment.Mark) (remark_heading r) (box l (remark_columns_from r later) fragment.Mark refl)

remark_opened : (l : List ℕ) (before : ℕ) (r : Remark) (later : List Remark) → Keeps (remark_opened_pieces l before r later)
unfolding remark_opened_pieces
remark_opened l before r later = either (r.line == before) [] (remark_opening_pieces l r later) refl (remark_opening l r later)

remarked : (what : Remarked) → Keeps (remarked_pieces what)
unfolding remarked_pieces fragment_text
remarked what = simp (behind_append, bytes) refl

remark_closed : (number : ℕ) (later : List Remark) → Keeps (remark_closed_pieces number later)
unfolding remark_closed_pieces fragment_text
remark_closed number later = either (number == line_of_first_remark later) [] (Fixed fragment.SectionEnd ∷ []) refl refl

remark : (l : List ℕ) (before : ℕ) (r : Remark) (later : List Remark) → Keeps (remark_pieces l before r later)
unfolding remark_pieces
remark l before r later = simp (behind_append, remark_opened, remarked, remark_closed) refl

pub remarks : (lines : List (List ℕ)) (before : ℕ) (rs : List Remark) → Keeps (remarks_pieces lines before rs)
unfolding remarks_pieces
remarks lines before [] = refl
remarks lines before (r ∷ later) = simp (behind_append, remark, remarks lines r.line later) refl
