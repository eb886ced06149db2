-- What the code gathers of the works, entry by entry. Of claims it counts the first versions, which are as many as
-- those in force.
use Rattle.std.specs.Prelude.{◌≡◌, ℕ, ◌&&◌, ◌+◌, ◌-◌, ◌^◌, ◌<◌, ◌==◌, Bool, List, Option, None, if◌then◌else◌, IsTrue, count_by, length, min, nat_le, nat_lt, slice_index_or, slice_set}
use Rattle.cwr_call.specs.Lawful.{is_iswc}
use Rattle.work_registry.specs.declared.reply.Reply.{Reply}
use Rattle.work_registry.specs.declared.reply.Reply.TheVariants.{Accepted, Duplicate, Conflict, Rejected}
use Rattle.work_registry.specs.EntryValue.{EntryValue}
use Rattle.work_registry.specs.Rows.{Row, rows_of}
use Rattle.work_registry.specs.Works.{iswc_of}
use Rattle.work_registry.specs.ReplyParts.{work_in}
use Rattle.work_registry.specs.Indexes.{newer}
use Rattle.register_tables.specs.declared.works.WorkTotals.{WorkTotals}
use Rattle.register_tables.specs.WorksTable.{is_on, kept_of}
use Rattle.register_tables.specs.Counting.{is_first}

-- a work of which no entry was read: no ISWC and no claims
abbrev pub blank_work : WorkTotals
blank_work = record { iswc = None; claims = 0 }

-- a work with one accepted entry more, which has this ISWC and version
abbrev pub grown : WorkTotals → Option ℕ → ℕ → WorkTotals
grown kept iswc version = record { iswc = newer iswc kept.iswc; claims = if version == 1 then min (kept.claims + 1) (2 ^ 64 - 1) else kept.claims }

-- the works after one entry more; work 1 stands at index 0
abbrev pub noted : List WorkTotals → Option ℕ → Reply → List WorkTotals
noted works iswc (Accepted work version) =
    if nat_lt 0 work && nat_le work (length works) then slice_set works (work - 1) (grown (slice_index_or works (work - 1) blank_work) iswc version) else works
noted works iswc (Duplicate work) = works
noted works iswc (Conflict work) = works
noted works iswc Rejected = works

-- the entry is the first version of a claim on the work
abbrev pub is_first_on : ℕ → EntryValue → Bool
is_first_on work e = is_on work (work_in e.reply) && is_first e.reply

-- of a work: its ISWC, and the number of these entries that are first versions of claims on it
abbrev pub totals_of_work : ℕ → List EntryValue → WorkTotals
totals_of_work work entries = record { iswc = iswc_of work (rows_of entries); claims = count_by (is_first_on work) entries }

-- the totals of works 1 to `works` are those of these entries
pub record AreTotals (works : ℕ) (entries : List EntryValue) (gathered : List WorkTotals) : Type 0 where
  pub size : length gathered ≡ works
  pub each : (w : ℕ) (d : WorkTotals) → w < length gathered → slice_index_or gathered w d ≡ totals_of_work (w + 1) entries
  pub codes : (w : ℕ) (d : WorkTotals) → w < length gathered → IsTrue (is_iswc (slice_index_or gathered w d).iswc)

-- the totals of works 1 to `count` are their ISWC and the claims in force among these entries
pub record AreKept (rows : List Row) (count : ℕ) (entries : List EntryValue) (works : List WorkTotals) : Type 0 where
  pub size : length works ≡ count
  pub each : (w : ℕ) (d : WorkTotals) → w < length works → slice_index_or works w d ≡ kept_of rows (w + 1) entries
  pub codes : (w : ℕ) (d : WorkTotals) → w < length works → IsTrue (is_iswc (slice_index_or works w d).iswc)
