-- What stands above the faults of a page: the name of the file, the outcome, what HDR says, and the numbers.
use Rattle.std.specs.Prelude.{ℕ, ◌+◌, ◌==◌, nat_lt, Bool, List, [], ◌∷◌, ◌++◌, codes, length, Option, Some, None, if◌then◌else◌}
use Rattle.std.specs.List.{count_by}
use Rattle.std.specs.Str.{bytes_eq}
use Rattle.cwr_field.specs.Layout.{field}
use Rattle.cwr_record.specs.Columns.{every_record_type, field_at, header_name}
use Rattle.cwr_record.specs.Territory.{without_trailing}
use Rattle.cwr_report.specs.declared.file_finding.FileFinding.{FileFinding}
use Rattle.cwr_report.specs.declared.finding.Finding.{Finding}
use Rattle.report_texts.specs.FileText.{file_rule_text}
use Rattle.cwr_report.specs.Reported.{Reported}
use Rattle.cwr_report.specs.Walks.{line_at}
use Rattle.html_text.specs.Contexts.{of_files}
use Rattle.html_text.specs.FileNames.{file_name}
use Rattle.html_text.specs.Pieces.{Piece, Fixed, Number, shown, text_pieces}
use Rattle.html_text.specs.declared.fragment.Fragment.{Fragment}
use Rattle.html_text.specs.declared.fragment.Fragment.TheVariants as fragment
use Rattle.check_pages.specs.Boxes.{where_so}
use Rattle.check_pages.specs.Faults.{rule_pieces}
use Rattle.check_pages.specs.RuleIndex.{broken_row_pieces, rows_pieces}
use Rattle.check_pages.specs.Rulers.{ruler}

-- the style of the page, but for rulers
unfoldable pub css_pieces : List Piece
css_pieces =
    Fixed fragment.Style ∷ Fixed fragment.StyleText ∷ Fixed fragment.StyleTables ∷ Fixed fragment.StyleCheck ∷ Fixed fragment.StyleLines ∷ []

-- the rulers: of lines of three rows at most, and of longer ones
unfoldable pub rulers_pieces : List Piece
rulers_pieces = ruler 2 ++ Fixed fragment.StyleLong ∷ (ruler 51 ++ Fixed fragment.StyleRulerEnd ∷ [])

-- the style of the page; `many` says whether it has so many sections that a browser is to lay out only those in sight
unfoldable pub style_pieces : Bool → List Piece
style_pieces many = css_pieces ++ (rulers_pieces ++ (where_so many fragment.StyleMany ++ Fixed fragment.StyleEnd ∷ []))

-- the beginning of the page, up to its heading
unfoldable pub title_pieces : List ℕ → Bool → List Piece
title_pieces name many =
    Fixed fragment.Head ∷ (file_name name ++ Fixed fragment.CheckTitle ∷ (style_pieces many ++ Fixed fragment.CheckOf ∷ (file_name name ++ Fixed fragment.H1End ∷ [])))

-- the rule by which a file is refused, with a link to its fault
unfoldable pub refused_by_pieces : ℕ → List Piece
refused_by_pieces number = Fixed fragment.Refused ∷ (rule_pieces of_files number ++ Fixed fragment.First ∷ (rule_pieces of_files number ++ Fixed fragment.Colon ∷ []))

-- that a file is refused, and where
unfoldable pub refusal_pieces : FileFinding → List Piece
refusal_pieces f =
    refused_by_pieces f.number ++ (text_pieces (file_rule_text f.number) ++ Fixed fragment.RefusedLine ∷ Number f.line ∷ Fixed fragment.RefusedEnd ∷ [])

-- how many transactions of a well-formed file have faults
unfoldable pub faulty_pieces : ℕ → ℕ → List Piece
faulty_pieces faulty all =
    if faulty == 0 then Fixed fragment.Clean ∷ Number all ∷ Fixed fragment.FaultyEnd ∷ []
    else Fixed fragment.Faulty ∷ Number faulty ∷ Fixed fragment.FaultyOf ∷ Number all ∷ Fixed fragment.FaultyEnd ∷ []

-- the outcome of the check, given the fault for which the file is refused, if it is
unfoldable pub outcome_pieces : ℕ → ℕ → Option FileFinding → List Piece
outcome_pieces faulty all None = faulty_pieces faulty all
outcome_pieces faulty all (Some f) = refusal_pieces f

-- the submitter that HDR names
unfoldable pub submitter_pieces : List ℕ → List Piece
submitter_pieces line =
    Fixed fragment.Submitter
    ∷ (shown (field line 4 2)
    ++ Fixed fragment.Space
    ∷ (shown (field line 6 9) ++ Fixed fragment.Space ∷ (shown (without_trailing (field_at line header_name)) ++ Fixed fragment.SubmitterEnd ∷ [])))

-- the day on which the file was made, by HDR
unfoldable pub day_pieces : List ℕ → List Piece
day_pieces line =
    shown (field line 65 4) ++ Fixed fragment.Dash ∷ (shown (field line 69 2) ++ Fixed fragment.Dash ∷ shown (field line 71 2))

-- the time of that day
unfoldable pub time_pieces : List ℕ → List Piece
time_pieces line =
    shown (field line 73 2) ++ Fixed fragment.TimeColon ∷ (shown (field line 75 2) ++ Fixed fragment.TimeColon ∷ shown (field line 77 2))

-- what HDR says
unfoldable pub header_pieces : List ℕ → List Piece
header_pieces line =
    submitter_pieces line ++ Fixed fragment.Created ∷ (day_pieces line ++ Fixed fragment.Space ∷ (time_pieces line ++ Fixed fragment.Dd ∷ []))

-- what HDR says, where the file is not refused, or for a line behind HDR
unfoldable pub some_header_pieces : List ℕ → Option FileFinding → List Piece
some_header_pieces line None = header_pieces line
some_header_pieces line (Some f) = if nat_lt 1 f.line then header_pieces line else []

-- the line begins a group
abbrev pub is_group_line : List ℕ → Bool
is_group_line line = bytes_eq (field_at line every_record_type) (codes "GRH")

-- how many groups and transactions a well-formed file has
unfoldable pub counts_pieces : List (List ℕ) → ℕ → Option FileFinding → List Piece
counts_pieces lines all None =
    Fixed fragment.Groups ∷ Number (count_by is_group_line lines) ∷ Fixed fragment.Dd ∷ Fixed fragment.Transactions ∷ Number all ∷ Fixed fragment.Dd ∷ []
counts_pieces lines all (Some f) = []

-- a number with a link to what is counted, where there is some
unfoldable pub linked_pieces : Fragment → ℕ → List Piece
linked_pieces begin number = if number == 0 then [] else Fixed begin ∷ Number number ∷ Fixed fragment.ADd ∷ []

-- the number of faults: one where the file is refused
abbrev pub fault_count : List Finding → Option FileFinding → ℕ
fault_count findings None = length findings
fault_count findings (Some f) = 1

-- what is known of a file with these lines, which has so many remarks
unfoldable pub facts_pieces : List (List ℕ) → Reported → ℕ → List Piece
facts_pieces lines r remarks =
    Fixed fragment.Facts
    ∷ (some_header_pieces (line_at lines 0) r.refused
    ++ (counts_pieces lines r.transactions r.refused
    ++ (linked_pieces fragment.Faults (fault_count r.findings r.refused) ++ (linked_pieces fragment.Remarks remarks ++ Fixed fragment.FactsEnd ∷ []))))

-- the rules that are broken
unfoldable pub rules_pieces : List Finding → Option FileFinding → List Piece
rules_pieces findings None = rows_pieces findings 15
rules_pieces findings (Some f) = broken_row_pieces of_files f.number 1

-- what the signs in boxes are
unfoldable pub signs_pieces : List Piece
signs_pieces = Fixed fragment.Signs ∷ Fixed fragment.Blank ∷ Fixed fragment.SignsBeyond ∷ Fixed fragment.Beyond ∷ Fixed fragment.SignsEnd ∷ []

-- the index by rule, and the heading of the faults, where there are some
unfoldable pub index_pieces : List Finding → Option FileFinding → List Piece
index_pieces findings refused =
    if fault_count findings refused == 0 then []
    else Fixed fragment.Rules ∷ (rules_pieces findings refused ++ Fixed fragment.RulesEnd ∷ Fixed fragment.FaultsHead ∷ signs_pieces)

-- what stands above the faults; `remarks` is the number of remarks
unfoldable pub front_pieces : List ℕ → List (List ℕ) → Reported → ℕ → List Piece
front_pieces name lines r remarks =
    title_pieces name (nat_lt 1000 (fault_count r.findings r.refused + remarks))
    ++ (outcome_pieces r.faulty r.transactions r.refused ++ (facts_pieces lines r remarks ++ index_pieces r.findings r.refused))
