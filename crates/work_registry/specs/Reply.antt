-- The reply of the registry to a call after the accepted entries so far: the first of five cases that holds.
--   1. The call has faults: rejected.
--   2. It registers a key that has a row: duplicate of that row's work.
--   3. Its key has a row, and its ISWC is that of another work, or the row's work has another ISWC: conflict of that
--      work.
--   4. Its work is the row's, else the one that has its ISWC, else a new one. In some right the control of that work
--      under other keys and the call's are together more than the whole: conflict of that work.
--   5. Accepted for that work, one version more.
use Rattle.std.specs.Prelude.{ℕ, ◌+◌, ◌==◌, ◌||◌, Bool, false, not, List, [], ◌∷◌, if◌then◌else◌, Option, Some, None, nat_lt, unwrap_or, slice_index}
use Rattle.cwr_field.specs.Share.{max_whole}
use Rattle.cwr_call.specs.declared.transaction_fault.Fault.{Fault}
use Rattle.cwr_record.specs.declared.works.WorkKind.{WorkKind}
use Rattle.cwr_record.specs.declared.works.WorkKind.TheVariants.{Nwr, Rev}
use Rattle.cwr_call.specs.CallValue.{CallValue}
use Rattle.work_registry.specs.declared.key.Key.{Key}
use Rattle.work_registry.specs.declared.reply.Reply.{Reply}
use Rattle.work_registry.specs.declared.reply.Reply.TheVariants.{Accepted, Duplicate, Conflict, Rejected}
use Rattle.work_registry.specs.Rows.{Row, key_of, last_of_key}
use Rattle.work_registry.specs.Works.{others_in, iswc_of, work_of_iswc, work_count}
use Rattle.work_registry.specs.Claims.{versions_of}

-- the greatest control of a right that a work may have: 100.06 per cent, in hundredths of one per cent
abbrev pub max_control : ℕ
max_control = max_whole

-- there is a number, and it is not n
abbrev pub differs : ℕ → Option ℕ → Bool
differs n None = false
differs n (Some m) = not (m == n)

-- the call has an ISWC, and it is that of another work than w, or w has another ISWC; false where the call has none
abbrev pub clashes : Option ℕ → ℕ → List Row → Bool
clashes None w rows = false
clashes (Some i) w rows = differs w (work_of_iswc i rows) || differs i (iswc_of w rows)

-- the work of a call whose key has no row: the one that has its ISWC, else a new one, numbered one more than there are
-- works
abbrev pub work_for : Option ℕ → List Row → ℕ
work_for None rows = work_count rows + 1
work_for (Some i) rows = unwrap_or (work_of_iswc i rows) (work_count rows + 1)

-- in one right, the control of work w under other keys and the call's control are together above 100.06 per cent
abbrev pub is_over_in : ℕ → ℕ → Key → List ℕ → List Row → Bool
is_over_in right w k control rows = nat_lt max_control (others_in right w k rows + slice_index control right)

-- in some of the three rights the control of work w under other keys and the call's are together too much
abbrev pub is_over : ℕ → Key → List ℕ → List Row → Bool
is_over w k control rows = is_over_in 0 w k control rows || (is_over_in 1 w k control rows || is_over_in 2 w k control rows)

-- cases 4 and 5: conflict of the work where its control would be too much, else accepted as the next version of the
-- key
abbrev pub reply_for_work : List Row → CallValue → ℕ → Reply
reply_for_work rows call w = if is_over w (key_of call) call.control rows then Conflict w else Accepted w (versions_of (key_of call) rows + 1)

-- the reply to a call whose key has a row: case 2 for an NWR; for a REV case 3, and then 4 and 5
abbrev pub reply_after_row : WorkKind → Row → List Row → CallValue → Reply
reply_after_row Nwr r rows call = Duplicate r.work
reply_after_row Rev r rows call = if clashes call.iswc r.work rows then Conflict r.work else reply_for_work rows call r.work

-- the reply to a call without faults, given the last row of its key, if there is one
abbrev pub reply_after : Option Row → List Row → CallValue → Reply
reply_after None rows call = reply_for_work rows call (work_for call.iswc rows)
reply_after (Some r) rows call = reply_after_row call.kind r rows call

-- the reply to a call: case 1 where it has faults, and else the other cases
abbrev pub reply_unless : List Fault → List Row → CallValue → Reply
reply_unless [] rows call = reply_after (last_of_key (key_of call) rows) rows call
reply_unless (f ∷ faults) rows call = Rejected

-- the reply of one registry to a call, given the accepted entries so far, the oldest first
abbrev pub reply_to : List Row → CallValue → Reply
reply_to rows call = reply_unless call.faults rows call
