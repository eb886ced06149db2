-- The fault for which a file is refused: its place, its line in a box, and what was expected.
use Rattle.std.specs.Prelude.{ℕ, List, [], ◌∷◌, ◌++◌, Option, Some, None}
use Rattle.cwr_record.specs.declared.columns.Column.{Column}
use Rattle.cwr_report.specs.declared.file_finding.FileFinding.{FileFinding}
use Rattle.cwr_report.specs.declared.file_finding.RecordPlace.{RecordPlace}
use Rattle.cwr_report.specs.declared.file_finding.RecordPlace.TheVariants.{End}
use Rattle.cwr_report.specs.declared.file_finding.WrongByte.{WrongByte}
use Rattle.report_texts.specs.FileText.{place_text}
use Rattle.html_text.specs.Pieces.{Piece, Fixed}
use Rattle.html_text.specs.declared.fragment.Fragment.{Fragment}
use Rattle.html_text.specs.declared.fragment.Fragment.TheVariants.{Mark, MarkByte, SectionEnd}
use Rattle.check_pages.specs.Faults.{file_fault_pieces}
use Rattle.check_pages.specs.Sections.{box_pieces, columns_of, place_pieces}

-- where the wrong byte stands, where there is one
abbrev pub byte_column : Option WrongByte → List Column
byte_column None = []
byte_column (Some wrong) = record { start = wrong.in_line; width = 1 } ∷ []

-- what is marked of the faulty line
abbrev pub file_columns : FileFinding → List Column
file_columns f = columns_of f.fields ++ byte_column f.byte

-- the beginning of a mark: links lead to that of a wrong byte
abbrev pub begin_of_mark : Option WrongByte → Fragment
begin_of_mark None = Mark
begin_of_mark (Some wrong) = MarkByte

-- the faulty line in its box; nothing at the end of the file, where there is no line
unfoldable pub file_box_pieces : RecordPlace → List ℕ → FileFinding → List Piece
file_box_pieces End line f = []
file_box_pieces _ line f = box_pieces line (file_columns f) (begin_of_mark f.byte)

-- the place of the fault, by which its section begins
unfoldable pub file_heading_pieces : FileFinding → List Piece
file_heading_pieces f = place_pieces f.line (place_text f.rtype f.place)

-- the section of the fault, of which the line has these bytes
unfoldable pub refused_pieces : List ℕ → FileFinding → List Piece
refused_pieces line f = file_heading_pieces f ++ (file_box_pieces f.place line f ++ (file_fault_pieces line f ++ Fixed SectionEnd ∷ []))
