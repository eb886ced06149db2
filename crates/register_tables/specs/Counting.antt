-- What the code counts, one more at a time. A count stays at its greatest value, 2 ^ 64 - 1.
use Rattle.std.specs.Prelude.{◌≡◌, ℕ, ◌+◌, ◌-◌, ◌^◌, ◌<◌, ◌==◌, Bool, true, false, List, [], ◌∷◌, if◌then◌else◌, Some, length, min, nat_le, nat_lt, ◌&&◌, slice_index_or, slice_set}
use Rattle.std.specs.Str.{bytes_eq}
use Rattle.cwr_record.specs.declared.status.Status.{Status}
use Rattle.cwr_record.specs.declared.status.Status.TheVariants as status
use Rattle.work_registry.specs.declared.reply.Reply.{Reply}
use Rattle.work_registry.specs.declared.reply.Reply.TheVariants.{Accepted, Duplicate, Conflict, Rejected}
use Rattle.work_registry.specs.EntryValue.{EntryValue}
use Rattle.register_tables.specs.declared.tally.Tally.{Tally}
use Rattle.register_tables.specs.declared.shares.Bands.{Bands}
use Rattle.register_tables.specs.declared.submitters.SubmitterEntries.{SubmitterEntries}
use Rattle.register_tables.specs.Wanted.{fits_status}
use Rattle.register_tables.specs.Summary.{count, is_all, is_answered, is_conflict_on, is_half, is_more, is_none, is_quarter}

-- one more where there is one more, and else the same; a count at its greatest value stays
abbrev pub counted : ℕ → Bool → ℕ
counted n more = if more then min (n + 1) (2 ^ 64 - 1) else n

-- the reply accepts the first version of a claim
abbrev pub is_first : Reply → Bool
is_first (Accepted work version) = version == 1
is_first (Duplicate work) = false
is_first (Conflict work) = false
is_first Rejected = false

-- the counts of entries with one entry more, which has this status, and is a first version or not
abbrev pub tallied : Tally → Status → Bool → Tally
tallied tally answer first = record {
  accepted = counted tally.accepted (fits_status (Some status.Accepted) answer);
  duplicates = counted tally.duplicates (fits_status (Some status.Duplicate) answer);
  conflicts = counted tally.conflicts (fits_status (Some status.Conflict) answer);
  rejected = counted tally.rejected (fits_status (Some status.Rejected) answer);
  current = counted tally.current first;
}

-- the counts of these entries: by status, and the number of first versions, which is that of the claims in force
abbrev pub tallied_all : List EntryValue → Tally
tallied_all entries = record {
  accepted = count (is_answered status.Accepted) entries;
  duplicates = count (is_answered status.Duplicate) entries;
  conflicts = count (is_answered status.Conflict) entries;
  rejected = count (is_answered status.Rejected) entries;
  current = count (λ e. is_first e.reply) entries;
}

-- the counts of works with one work more, of which this share of a right is left
abbrev pub banded : Bands → ℕ → Bands
banded bands left = record {
  none = counted bands.none (is_none left);
  quarter = counted bands.quarter (is_quarter left);
  half = counted bands.half (is_half left);
  more = counted bands.more (is_more left);
  all = counted bands.all (is_all left);
}

-- the conflicts on each work, with one entry more; work 1 stands at index 0
abbrev pub conflict_noted : List ℕ → Reply → List ℕ
conflict_noted counts (Accepted work version) = counts
conflict_noted counts (Duplicate work) = counts
conflict_noted counts (Conflict work) =
    if nat_lt 0 work && nat_le work (length counts) then slice_set counts (work - 1) (counted (slice_index_or counts (work - 1) 0) true) else counts
conflict_noted counts Rejected = counts

-- the counts are the conflicts on each work in these entries
pub record AreCounted (works : ℕ) (entries : List EntryValue) (counts : List ℕ) : Type 0 where
  pub size : length counts ≡ works
  pub each : (w d : ℕ) → w < length counts → slice_index_or counts w d ≡ count (λ e. is_conflict_on (w + 1) e.reply) entries

-- the entries of each submitter, with one entry more of this one, which is put last where it is new
abbrev pub submitter_noted : List SubmitterEntries → List ℕ → List SubmitterEntries
submitter_noted [] submitter = record { submitter = submitter; entries = 1 } ∷ []
submitter_noted (c ∷ cs) submitter =
    if bytes_eq submitter c.submitter then record { submitter = c.submitter; entries = counted c.entries true } ∷ cs else c ∷ submitter_noted cs submitter

-- the entries of each submitter, noted one by one from the end
abbrev pub submitters_noted : List EntryValue → List SubmitterEntries
submitters_noted [] = []
submitters_noted (e ∷ es) = submitter_noted (submitters_noted es) e.call.submitter
