-- The remarks on the lines of a text.
use Rattle.std.specs.Prelude.{ℕ, ◌+◌, nat_lt, List, [], ◌∷◌, ◌++◌, length, if◌then◌else◌}
use Rattle.cwr_record.specs.Columns.{field_at, every_record_type}
use Rattle.cwr_record.specs.RecordTypes.{type_of}
use Rattle.cwr_remarks.specs.declared.remark.Remark.{Remark}
use Rattle.cwr_remarks.specs.HighBytes.{high_bytes}
use Rattle.cwr_remarks.specs.Layouts.{layout_of, past_layout}
use Rattle.cwr_remarks.specs.OnLine.{remark_on}
use Rattle.cwr_remarks.specs.Types.{unknown_type}
use Rattle.cwr_remarks.specs.Territories.{only_excluded}

-- the remarks on a line with this number, from 1, given the lines after it
abbrev pub remarks_on : ℕ → List ℕ → List (List ℕ) → List Remark
remarks_on number line after =
    remark_on number line (high_bytes line)
    ++ remark_on number line (past_layout (length line) (layout_of (type_of line)))
    ++ remark_on number line (unknown_type (type_of line) (field_at line every_record_type))
    ++ remark_on number line (only_excluded (type_of line) after)

-- the remarks on these lines, of which the first has this number
abbrev pub remarks_from : ℕ → List (List ℕ) → List Remark
remarks_from number [] = []
remarks_from number (line ∷ lines) = remarks_on number line lines ++ remarks_from (number + 1) lines

-- the remarks on those of these lines whose numbers are below `end`; the lines after that are still read for the
-- territories of records before
abbrev pub remarks_to : ℕ → ℕ → List (List ℕ) → List Remark
remarks_to end number [] = []
remarks_to end number (line ∷ lines) = if nat_lt number end then remarks_on number line lines ++ remarks_to end (number + 1) lines else []
