-- What the summary of a register contains, as a JSON object.
use Rattle.std.specs.Prelude.{ℕ, List, map, codes, length}
use Rattle.serde_json.specs.Data.{Data, array, object, no_members, put}
use Rattle.serde_json.specs.View.{items_of}
use Rattle.work_registry.specs.EntryValue.{EntryValue}
use Rattle.work_registry.specs.Rows.{Row, rows_of}
use Rattle.register_tables.specs.declared.tally.Tally.{Tally}
use Rattle.register_tables.specs.declared.shares.Bands.{Bands}
use Rattle.register_tables.specs.declared.conflicts.Conflicted.{Conflicted}
use Rattle.register_tables.specs.declared.submitters.SubmitterEntries.{SubmitterEntries}
use Rattle.register_tables.specs.JsonValues.{count_data, json_line, text_data}
use Rattle.register_tables.specs.Summary.{bands_of, different, largest, left_of, most_entries, submitters, tally_of, works}
use Rattle.register_tables.specs.WorksTable.{last_work}

-- the object of a work: its number, and the number of its conflicts
abbrev pub conflict_data : Conflicted → Data
conflict_data c = object (put (codes "conflicts") (count_data c.conflicts) (put (codes "work") (count_data c.work) no_members))

-- an array of works with their conflicts
abbrev pub conflicts_data : List Conflicted → Data
conflicts_data cs = array (items_of (map conflict_data cs))

-- the object of a submitter: the number of its entries, and its bytes, each as the character with its number
abbrev pub submitter_data : SubmitterEntries → Data
submitter_data c = object (put (codes "entries") (count_data c.entries) (put (codes "submitter") (text_data c.submitter) no_members))

-- an array of submitters with their entries
abbrev pub submitters_data : List SubmitterEntries → Data
submitters_data cs = array (items_of (map submitter_data cs))

-- the object with the number of works in each band of what is left
abbrev pub bands_data : Bands → Data
bands_data bands =
    object (put (codes "all") (count_data bands.all)
    (put (codes "more_than_half") (count_data bands.more)
    (put (codes "none") (count_data bands.none)
    (put (codes "up_to_half") (count_data bands.half)
    (put (codes "up_to_quarter") (count_data bands.quarter) no_members)))))

-- the works by what is left of a right: 0 performing, 1 mechanical, 2 synchronization
abbrev pub right_data : ℕ → List Row → Data
right_data right rows = bands_data (bands_of (map (left_of right rows) (works rows)))

-- for each right, the works by what is left of it
abbrev pub shares_data : List Row → Data
shares_data rows =
    object (put (codes "mechanical") (right_data 1 rows)
    (put (codes "performing") (right_data 0 rows)
    (put (codes "synchronization") (right_data 2 rows) no_members)))

-- the object of a summary, put together from the numbers of entries, works and submitters, the entries by status, the
-- works by what is left, the works with the most conflicts, and the submitters with the most entries
abbrev pub object_of_numbers : ℕ → ℕ → ℕ → Tally → Data → Data → Data → Data
object_of_numbers entries works submitters tally left conflicts most =
    object (put (codes "accepted") (count_data tally.accepted)
    (put (codes "conflicts") (count_data tally.conflicts)
    (put (codes "current_claims") (count_data tally.current)
    (put (codes "duplicates") (count_data tally.duplicates)
    (put (codes "entries") (count_data entries)
    (put (codes "largest_conflicts") conflicts
    (put (codes "left") left
    (put (codes "most_entries") most
    (put (codes "rejected") (count_data tally.rejected)
    (put (codes "submitters") (count_data submitters)
    (put (codes "works") (count_data works) no_members)))))))))))

-- the object of the summary of a history
abbrev pub summary_data : List EntryValue → Data
summary_data history =
    object_of_numbers (length history) (last_work (rows_of history)) (length (different (submitters history))) (tally_of (rows_of history) history)
    (shares_data (rows_of history)) (conflicts_data (largest history)) (submitters_data (most_entries history))

-- the summary of a history as one line of JSON
abbrev pub summary_json : List EntryValue → List ℕ
summary_json history = json_line (summary_data history)
