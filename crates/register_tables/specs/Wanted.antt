-- Which entries a table is of.
use Rattle.std.specs.Prelude.{ℕ, ◌==◌, ◌&&◌, Bool, true, false, List, Option, Some, None}
use Rattle.std.specs.Str.{bytes_eq}
use Rattle.cwr_record.specs.Kinds.{status_text}
use Rattle.cwr_record.specs.declared.status.Status.{Status}
use Rattle.work_registry.specs.EntryValue.{EntryValue}
use Rattle.work_registry.specs.ReplyParts.{status_in, work_in}
use Rattle.register_tables.specs.declared.wanted.Wanted.{Wanted}

-- no number is asked for, or it is this one
abbrev pub fits_number : Option ℕ → Option ℕ → Bool
fits_number None given = true
fits_number (Some n) None = false
fits_number (Some n) (Some m) = m == n

-- no text is asked for, or it is this one
abbrev pub fits_text : Option (List ℕ) → List ℕ → Bool
fits_text None given = true
fits_text (Some text) given = bytes_eq given text

-- no status is asked for, or it is this one
abbrev pub fits_status : Option Status → Status → Bool
fits_status None given = true
fits_status (Some status) given = bytes_eq (status_text given) (status_text status)

-- the entry fits in all that is asked for: the work that its reply names, the submitter and the submitter's number of
-- its call, and its status
abbrev pub is_wanted : Wanted → EntryValue → Bool
is_wanted wanted e =
    fits_number wanted.work (work_in e.reply)
    && (fits_text wanted.submitter e.call.submitter && (fits_text wanted.number e.call.number && fits_status wanted.status (status_in e.reply)))
