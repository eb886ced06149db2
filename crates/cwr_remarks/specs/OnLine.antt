-- A remark on a line of a text.
use Rattle.std.specs.Prelude.{ℕ, List, [], ◌∷◌, Option, Some, None}
use Rattle.cwr_record.specs.Columns.{field_at, every_record_type}
use Rattle.cwr_remarks.specs.declared.remark.Remark.{Remark}
use Rattle.cwr_remarks.specs.declared.remark.Remarked.{Remarked}

-- the remark on a line with this number, from 1, where there is something to remark
abbrev pub remark_on : ℕ → List ℕ → Option Remarked → List Remark
remark_on number line None = []
remark_on number line (Some what) = record { line = number; rtype = Some (field_at line every_record_type); what = what } ∷ []
