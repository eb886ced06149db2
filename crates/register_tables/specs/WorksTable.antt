-- The table of the works.
use Rattle.std.specs.Prelude.{ℕ, ◌==◌, ◌&&◌, Bool, false, List, [], ◌∷◌, ◌++◌, Option, Some, None, codes, count_by, filter, if◌then◌else◌, max, slice_index}
use Rattle.std.specs.List.{flat_map, range_with_len}
use Rattle.std.specs.Fmt.{decimal}
use Rattle.work_registry.specs.EntryValue.{EntryValue}
use Rattle.work_registry.specs.Rows.{Row, rows_of}
use Rattle.work_registry.specs.Works.{control_of, iswc_of}
use Rattle.work_registry.specs.ReplyParts.{work_in}
use Rattle.register_tables.specs.declared.form.Form.{Form}
use Rattle.register_tables.specs.declared.wanted.Wanted.{Wanted}
use Rattle.register_tables.specs.declared.works.WorkTotals.{WorkTotals}
use Rattle.register_tables.specs.CsvRows.{csv_line, iswc_field}
use Rattle.register_tables.specs.Fields.{share_field, performing_name, mechanical_name, synchronization_name}
use Rattle.register_tables.specs.Wanted.{fits_number}
use Rattle.register_tables.specs.ClaimsTable.{is_current}

-- the greatest of a number and of the numbers of works in the rows
abbrev pub greatest : ℕ → List Row → ℕ
greatest found [] = found
greatest found (r ∷ rs) = greatest (max found r.work) rs

-- The greatest number that was given to a work, 0 where there is none. Works are numbered from 1, in the order in
-- which they were first accepted, so there are as many.
abbrev pub last_work : List Row → ℕ
last_work rows = greatest 0 rows

-- there is a work, and it is this one
abbrev pub is_on : ℕ → Option ℕ → Bool
is_on work None = false
is_on work (Some n) = n == work

-- the entry made a claim in force on the work
abbrev pub is_claim_on : List Row → ℕ → EntryValue → Bool
is_claim_on rows work e = is_on work (work_in e.reply) && is_current rows e

-- of a work: its ISWC, and the number of these entries that made claims in force on it
abbrev pub kept_of : List Row → ℕ → List EntryValue → WorkTotals
kept_of rows work entries = record { iswc = iswc_of work (rows_of entries); claims = count_by (is_claim_on rows work) entries }

-- the names of the columns
abbrev pub works_header : Form → List (List ℕ)
works_header form =
    codes "work"
    ∷ codes "iswc"
    ∷ performing_name form
    ∷ mechanical_name form
    ∷ synchronization_name form
    ∷ codes "claims"
    ∷ []

-- the fields of a work: its number, its ISWC, its control of the three rights, and the number of claims in force on it
abbrev pub work_fields : Form → ℕ → WorkTotals → List ℕ → List (List ℕ)
work_fields form work kept control =
    decimal work
    ∷ iswc_field kept.iswc
    ∷ share_field form (slice_index control 0)
    ∷ share_field form (slice_index control 1)
    ∷ share_field form (slice_index control 2)
    ∷ decimal kept.claims
    ∷ []

-- the CSV line of a work
abbrev pub work_line : Form → List EntryValue → ℕ → List ℕ
work_line form history work = csv_line (work_fields form work (kept_of (rows_of history) work history) (control_of work (rows_of history)))

-- no work is asked for, or it is this one
abbrev pub is_wanted_work : Wanted → ℕ → Bool
is_wanted_work wanted work = fits_number wanted.work (Some work)

-- the lines of the works that are wanted, in the order of their numbers
abbrev pub work_lines : Form → Wanted → List EntryValue → List ℕ
work_lines form wanted history =
    flat_map (work_line form history) (filter (is_wanted_work wanted) (range_with_len 1 (last_work (rows_of history))))

-- the table of the works: a header line, and a line for each work that is wanted
abbrev pub works_text : Form → Wanted → List EntryValue → List ℕ
works_text form wanted history = csv_line (works_header form) ++ work_lines form wanted history

-- the line of a work, and nothing where the work is not wanted
abbrev pub wanted_line : Form → Wanted → ℕ → WorkTotals → List ℕ → List ℕ
wanted_line form wanted work kept control = if is_wanted_work wanted work then csv_line (work_fields form work kept control) else []
