-- What the summary of a register contains.
use Rattle.std.specs.Prelude.{ℕ, ◌-◌, ◌==◌, ◌&&◌, Bool, false, List, [], ◌∷◌, ◌++◌, Some, codes, filter, if◌then◌else◌, length, map, nat_le, nat_lt, slice_index, take}
use Rattle.std.specs.List.{flat_map, list_any, range_with_len}
use Rattle.std.specs.Fmt.{decimal}
use Rattle.std.specs.Cmp.Lexicographic.{slice_cmp}
use Rattle.std.specs.Ordering.{is_lt, nat_cmp}
use Rattle.std.specs.Str.{bytes_eq}
use Rattle.cwr_record.specs.declared.status.Status.{Status}
use Rattle.cwr_record.specs.declared.status.Status.TheVariants as status
use Rattle.work_registry.specs.declared.reply.Reply.{Reply}
use Rattle.work_registry.specs.declared.reply.Reply.TheVariants.{Accepted, Duplicate, Conflict, Rejected}
use Rattle.work_registry.specs.EntryValue.{EntryValue}
use Rattle.work_registry.specs.Rows.{Row, rows_of}
use Rattle.work_registry.specs.Works.{control_of}
use Rattle.work_registry.specs.ReplyParts.{status_in}
use Rattle.register_tables.specs.declared.tally.Tally.{Tally}
use Rattle.register_tables.specs.declared.shares.Bands.{Bands}
use Rattle.register_tables.specs.declared.conflicts.Conflicted.{Conflicted}
use Rattle.register_tables.specs.declared.submitters.SubmitterEntries.{SubmitterEntries}
use Rattle.register_tables.specs.Wanted.{fits_status}
use Rattle.register_tables.specs.ClaimsTable.{is_current}
use Rattle.register_tables.specs.WorksTable.{last_work}

-- the number of elements that pass the test
abbrev pub count : {X : Type 0} → (X → Bool) → List X → ℕ
count test xs = length (filter test xs)

-- the list with one more, which stands before the first that it is ahead of
abbrev pub placed : {X : Type 0} → (X → X → Bool) → X → List X → List X
placed is_ahead x [] = x ∷ []
placed is_ahead x (y ∷ ys) = if is_ahead x y then x ∷ y ∷ ys else y ∷ placed is_ahead x ys

-- the elements in order: one that is ahead of another stands before it
abbrev pub ranked : {X : Type 0} → (X → X → Bool) → List X → List X
ranked is_ahead [] = []
ranked is_ahead (x ∷ xs) = placed is_ahead x (ranked is_ahead xs)

-- Entries.

-- the entry has this status
abbrev pub is_answered : Status → EntryValue → Bool
is_answered answer e = fits_status (Some answer) (status_in e.reply)

-- the counts of these entries: how many have each status, and how many made claims that are in force by these rows
abbrev pub tally_of : List Row → List EntryValue → Tally
tally_of rows entries = record {
  accepted = count (is_answered status.Accepted) entries;
  duplicates = count (is_answered status.Duplicate) entries;
  conflicts = count (is_answered status.Conflict) entries;
  rejected = count (is_answered status.Rejected) entries;
  current = count (is_current rows) entries;
}

-- each text once, at its last place
abbrev pub different : List (List ℕ) → List (List ℕ)
different [] = []
different (text ∷ texts) = if list_any (bytes_eq text) texts then different texts else text ∷ different texts

-- the submitter of each entry, in order
abbrev pub submitters : List EntryValue → List (List ℕ)
submitters entries = map (λ e. e.call.submitter) entries

-- Works.

-- the numbers of the works, from 1 to the greatest
abbrev pub works : List Row → List ℕ
works rows = range_with_len 1 (last_work rows)

-- what no claim controls of a right of a work, in hundredths of one per cent; 0 where the control is the whole or more
abbrev pub left_of : ℕ → List Row → ℕ → ℕ
left_of right rows work = 10000 - slice_index (control_of work rows) right

-- nothing is left
abbrev pub is_none : ℕ → Bool
is_none left = left == 0

-- something is left, at most a quarter of the whole
abbrev pub is_quarter : ℕ → Bool
is_quarter left = nat_lt 0 left && nat_le left 2500

-- more than a quarter is left, and at most a half
abbrev pub is_half : ℕ → Bool
is_half left = nat_lt 2500 left && nat_le left 5000

-- more than a half is left, and not all
abbrev pub is_more : ℕ → Bool
is_more left = nat_lt 5000 left && nat_lt left 10000

-- all is left
abbrev pub is_all : ℕ → Bool
is_all left = left == 10000

-- the number of works in each band, given what is left of each
abbrev pub bands_of : List ℕ → Bands
bands_of lefts = record {
  none = count is_none lefts;
  quarter = count is_quarter lefts;
  half = count is_half lefts;
  more = count is_more lefts;
  all = count is_all lefts;
}

-- Conflicts.

-- the reply is a conflict of this work
abbrev pub is_conflict_on : ℕ → Reply → Bool
is_conflict_on work (Accepted w version) = false
is_conflict_on work (Duplicate w) = false
is_conflict_on work (Conflict w) = w == work
is_conflict_on work Rejected = false

-- a work, with the number of these entries that are conflicts of it
abbrev pub conflicted : List EntryValue → ℕ → Conflicted
conflicted entries work = record { work = work; conflicts = count (λ e. is_conflict_on work e.reply) entries }

-- the work has at least one conflict
abbrev pub has_conflicts : Conflicted → Bool
has_conflicts c = nat_lt 0 c.conflicts

-- one work comes before another: it has more conflicts, or as many and the lower number
abbrev pub conflicts_ahead : Conflicted → Conflicted → Bool
conflicts_ahead c d = if c.conflicts == d.conflicts then nat_lt c.work d.work else nat_lt d.conflicts c.conflicts

-- the ten works with the most conflicts, in order; fewer where fewer works have conflicts
abbrev pub largest : List EntryValue → List Conflicted
largest history = take 10 (ranked conflicts_ahead (filter has_conflicts (map (conflicted history) (works (rows_of history)))))

-- Submitters.

-- a submitter, with the number of these entries that are its
abbrev pub entries_of : List EntryValue → List ℕ → SubmitterEntries
entries_of entries submitter = record { submitter = submitter; entries = count (λ e. bytes_eq submitter e.call.submitter) entries }

-- one submitter comes before another: it has more entries, or as many and the lesser bytes
abbrev pub entries_ahead : SubmitterEntries → SubmitterEntries → Bool
entries_ahead c d = if c.entries == d.entries then is_lt (slice_cmp nat_cmp c.submitter d.submitter) else nat_lt d.entries c.entries

-- the ten submitters with the most entries, in order; fewer where there are fewer
abbrev pub most_entries : List EntryValue → List SubmitterEntries
most_entries history = take 10 (ranked entries_ahead (map (entries_of history) (different (submitters history))))

-- Lines.

-- a line with a name and a number
abbrev pub number_line : List ℕ × ℕ → List ℕ
number_line line = line.0 ++ decimal line.1 ++ 10 ∷ []

-- the names and numbers of the counts of entries, works and claims
abbrev pub entry_lines : ℕ → ℕ → Tally → List (List ℕ × ℕ)
entry_lines entries works tally =
    (codes "entries: ", entries)
    ∷ (codes "accepted (AS): ", tally.accepted)
    ∷ (codes "duplicates (DU): ", tally.duplicates)
    ∷ (codes "conflicts (CO): ", tally.conflicts)
    ∷ (codes "rejected (RJ): ", tally.rejected)
    ∷ (codes "works: ", works)
    ∷ (codes "current claims: ", tally.current)
    ∷ []

-- the names and numbers of the bands of works
abbrev pub band_lines : Bands → List (List ℕ × ℕ)
band_lines bands =
    (codes "  none: ", bands.none)
    ∷ (codes "  up to a quarter: ", bands.quarter)
    ∷ (codes "  up to a half: ", bands.half)
    ∷ (codes "  more than a half: ", bands.more)
    ∷ (codes "  all: ", bands.all)
    ∷ []

-- the lines with these names and numbers
abbrev pub lines_text : List (List ℕ × ℕ) → List ℕ
lines_text lines = flat_map number_line lines

-- the number of works in each band of what is left of a right: 0 performing, 1 mechanical, 2 synchronization
abbrev pub right_text : ℕ → List Row → List ℕ
right_text right rows = lines_text (band_lines (bands_of (map (left_of right rows) (works rows))))

-- the line of a work with its conflicts
abbrev pub conflict_line : Conflicted → List ℕ
conflict_line c = codes "  work " ++ decimal c.work ++ codes ": " ++ decimal c.conflicts ++ 10 ∷ []

-- the first part of a summary: entries, works, claims in force and submitters
abbrev pub entries_text : List EntryValue → List ℕ
entries_text history =
    lines_text (entry_lines (length history) (last_work (rows_of history)) (tally_of (rows_of history) history))
    ++ number_line (codes "submitters: ", length (different (submitters history)))

-- the second part: for each right, the works by what is left of it
abbrev pub shares_text : List Row → List ℕ
shares_text rows =
    codes "works by what is left of the performing right:\n"
    ++ right_text 0 rows
    ++ codes "works by what is left of the mechanical right:\n"
    ++ right_text 1 rows
    ++ codes "works by what is left of the synchronization right:\n"
    ++ right_text 2 rows

-- the third part: the works with the most conflicts
abbrev pub conflicts_text : List Conflicted → List ℕ
conflicts_text cs = codes "largest conflicts:\n" ++ flat_map conflict_line cs

-- the summary of a history as a page to read: entries by status, works, claims in force and submitters, works by what
-- is left, and the works with the most conflicts
abbrev pub summary_text : List EntryValue → List ℕ
summary_text history = entries_text history ++ shares_text (rows_of history) ++ conflicts_text (largest history)
