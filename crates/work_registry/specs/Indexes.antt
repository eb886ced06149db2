-- What a book stores beside its history, so that it answers without reading through it.
use Rattle.std.specs.Prelude.{◌≡◌, ℕ, ◌≤◌, ◌+◌, ◌-◌, ◌<◌, List, [], ◌∷◌, ◌++◌, length, Option, Some, None, slice_index_or, slice_set, if◌then◌else◌, nat_lt}
use Rattle.std.specs.Option.{option_map}
use Rattle.cwr_field.specs.Iswc.{max_code}
use Rattle.cwr_call.specs.CallValue.{CallValue}
use Rattle.work_registry.specs.declared.key.Key.{Key}
use Rattle.work_registry.specs.declared.reply.Reply.{Reply}
use Rattle.work_registry.specs.declared.reply.Reply.TheVariants.{Accepted, Duplicate, Conflict, Rejected}
use Rattle.work_registry.specs.declared.indexes.IndexedClaim.{IndexedClaim}
use Rattle.work_registry.specs.declared.indexes.IndexedWork.{IndexedWork}
use Rattle.work_registry.specs.declared.indexes.Change.{Change}
use Rattle.work_registry.specs.declared.indexes.Decision.{Decision}
use Rattle.work_registry.specs.EntryValue.{EntryValue}
use Rattle.work_registry.specs.Rows.{Row, row_of, last_of_key}
use Rattle.work_registry.specs.Works.{control_of, iswc_of, work_of_iswc, work_count}
use Rattle.work_registry.specs.Claims.{versions_of}
use Rattle.work_registry.specs.Reply.{reply_to}
use Rattle.work_registry.specs.Numbers.{max_entries}
use Rattle.work_registry.specs.History.{IsHistory}

-- what is stored of the claim of an accepted entry, as this version
abbrev pub kept_from : ℕ → Row → IndexedClaim
kept_from version r = record { work = r.work; version = version; control = r.control }

-- what is stored of the claim in force under a key; `None` where no call with the key was accepted
abbrev pub indexed_claim : Key → List Row → Option IndexedClaim
indexed_claim k rows = option_map (kept_from (versions_of k rows)) (last_of_key k rows)

-- what is stored of a work: its ISWC, and its control of each right
abbrev pub indexed_work : ℕ → List Row → IndexedWork
indexed_work w rows = record { iswc = iswc_of w rows; control = control_of w rows }

-- what is stored equals what the accepted entries give, computed from scratch; and no ISWC has more than nine digits
pub record AreIndexes (rows : List Row) (claims : Key → Option IndexedClaim) (iswcs : ℕ → Option ℕ) (works : List IndexedWork) : Type 0 where
  -- the claim in force of each key
  pub claim : (k : Key) → claims k ≡ indexed_claim k rows
  -- the work of each ISWC
  pub named : (i : ℕ) → iswcs i ≡ work_of_iswc i rows
  pub nine_digits : (i : ℕ) → max_code < i → work_of_iswc i rows ≡ None
  -- there is one stored work for each work
  pub count : length works ≡ work_count rows
  -- work w + 1 stands at index w
  pub work : (w : ℕ) (d : IndexedWork) → w < length works → slice_index_or works w d ≡ indexed_work (w + 1) rows

-- the entries and the limit are those of a book
pub record IsBook (history : List EntryValue) (limit : ℕ) : Type 0 where
  -- the entries are a history of one registry
  pub lawful : IsHistory history
  pub fits : length history ≤ limit
  pub least : 1 ≤ limit
  pub most : limit ≤ max_entries

-- the stored works after this one is stored, in its place or, where its number is new, at the end
abbrev pub written : ℕ → IndexedWork → List IndexedWork → List IndexedWork
written w kept works = if nat_lt (w - 1) (length works) then slice_set works (w - 1) kept else works ++ kept ∷ []

-- what is to be stored for a call with this reply; `None` where it is not accepted
abbrev pub change_of : List Row → CallValue → Reply → Option Change
change_of rows call (Accepted w v) =
    Some (record { claim = record { work = w; version = v; control = call.control }; work = indexed_work w (rows ++ row_of call w ∷ []) })
change_of rows call (Duplicate w) = None
change_of rows call (Conflict w) = None
change_of rows call Rejected = None

-- the reply to a call after the accepted entries, and what is to be stored for it
abbrev pub decision_on : List Row → CallValue → Decision
decision_on rows call = record { reply = reply_to rows call; change = change_of rows call (reply_to rows call) }

-- the new ISWC, or the old one where there is no new one
abbrev pub newer : Option ℕ → Option ℕ → Option ℕ
newer None older = older
newer (Some i) older = Some i
