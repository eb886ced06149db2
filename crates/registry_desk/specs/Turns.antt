-- What the calls of a turn do.
use Rattle.std.specs.Prelude.{◌≡◌, ◌≢◌, ℕ, ◌+◌, ◌≤◌, ◌↔◌, Bool, true, false, if◌then◌else◌, List, [], ◌∷◌, ◌++◌, length, Result, Ok, Err, IfOk, IfErr}
use Rattle.ticket_core.specs.declared.array_lock.ArrayPhase.TheVariants.{Away, Waiting as IsWaiting, Inside as IsInside}
use Rattle.cwr_call.specs.CallValue.{CallValue}
use Rattle.work_registry.specs.declared.reply.Reply.{Reply}
use Rattle.work_registry.specs.declared.refused.HandInError.{HandInError}
use Rattle.work_registry.specs.EntryValue.{EntryValue, entry_of}
use Rattle.work_registry.specs.Refusals.{RefusedValue, is_full, is_for_limit}
use Rattle.work_registry.specs.Rows.{rows_of}
use Rattle.work_registry.specs.Reply.{reply_to}
use Rattle.work_registry.specs.Numbers.{IsNumbered}
use Rattle.work_registry.specs.History.{IsHistory}
use Rattle.work_registry.specs.Replay.{made}
use Rattle.registry_desk.specs.declared.view.View.{View}
use Rattle.registry_desk.specs.declared.seat.Looked.{Looked}
use Rattle.registry_desk.specs.declared.seat.Looked.TheVariants.{Yours, NotYet}
use Rattle.registry_desk.specs.Views.{open_flag, looked, entered}
use Rattle.registry_desk.specs.Plays.{Finds, book_with}
use Rattle.registry_desk.specs.Kinds.{shuts, passes, Moves}
use Rattle.registry_desk.specs.Standing.{Standing, Stay}

-- a seat was let in: it has the view `inside`, and the book as it found it
pub record LetIn (r : Standing) (s : Stay) (inside : View) : Type 0 where
  pub desk : s.desk ≡ r.desk
  pub view : s.view ≡ inside
  pub book : s.book ≡ book_with r.view s.book.history
  pub finds : Finds r.view s.book.history
  pub unused : s.unused ≡ true
  pub full : s.full ≡ false

-- a seat has read that the flag of its ticket is open, and is inside
pub record Enters (w : Standing) (s : Stay) : Type 0 where
  pub ticket : ℕ
  pub waited : w.view.phase ≡ IsWaiting ticket
  pub stay : LetIn w s (entered w.view ticket s.book.history)

-- a seat has read in the flag of its ticket that it is not open, and waits as before
pub record WaitsOn (w v : Standing) : Type 0 where
  -- the word that it read
  pub found : ℕ
  pub closed : found ≢ open_flag
  pub same : v ≡ record { desk = w.desk; view = looked w.view found }

-- a seat has drawn a ticket and looked until the ticket's flag was open
pub record ComesIn (r : Standing) (s : Stay) : Type 0 where
  pub ticket : ℕ
  -- the words that it read in the flag
  pub looks : List ℕ
  pub stay : LetIn r s (record r.view {
    phase = IsInside ticket;
    turns = r.view.turns + 1;
    looks = looks;
    held = s.book.history;
  })

-- the result of a look: the seat is inside, or it waits on
abbrev pub LooksFor : {A : Type 0} → Standing → Looked A → Type 0
LooksFor w (Yours s) = Enters w s
LooksFor w (NotYet v) = WaitsOn w v

-- the view of a seat after a look
abbrev pub view_after : {A : Type 0} → Looked A → View
view_after (Yours s) = s.view
view_after (NotYet v) = v.view

-- a seat leaves by two steps: it closes its flag, with the book put back, and passes the lock on
abbrev pub LeavesBySteps : View → Bool → View → Type 0
LeavesBySteps v full w = (between : View) × Moves (shuts full) v between × Moves passes between w

-- a stay after a call that the book answered
abbrev pub answered : Stay → CallValue → Reply → Stay
answered s call reply = record s {
  book = record {
    history = s.book.history ++ entry_of s.view.session call reply ∷ [];
    limit = s.book.limit;
  };
  unused = false;
}

-- a stay after a call that the book did not take; it notes where the book was full
abbrev pub refused : Stay → HandInError → Stay
refused s why = record s { full = if is_for_limit why then true else s.full }

-- the entries that a call adds: one where it got a reply, none where it was refused
abbrev pub added_by : ℕ → CallValue → Result Reply RefusedValue → List EntryValue
added_by session call (Ok reply) = entry_of session call reply ∷ []
added_by session call (Err refusal) = []

-- the view of a seat after one turn with one call, which found this history
abbrev pub handed_in : View → List EntryValue → CallValue → Result Reply RefusedValue → View
handed_in v found call result = record v {
  phase = Away;
  turns = v.turns + 1;
  looks = [];
  list = v.list ++ added_by v.session call result;
  front = found ++ added_by v.session call result;
  marked = if is_full result then true else v.marked;
  held = [];
}

-- one turn with one call: from the seat before and the call to the answer and the seat after
pub record HandsIn (v : View) (call : CallValue) (result : Result Reply RefusedValue) (w : View) : Type 0 where
  -- it found a history that begins with what the seat saw last, and holds of its session just its list
  pub found : List EntryValue
  pub finds : Finds v found
  -- Exactly one turn is taken. A reply adds exactly that entry, to the list and to what was found; a refusal adds
  -- none, and Full marks the seat.
  pub view : w ≡ handed_in v found call result
  -- the reply is the registry's, after all entries found
  pub reply : IfOk result (λ r. r ≡ reply_to (rows_of found) call)
  -- its work and version are from 1 to 99,999,999
  pub numbered : IfOk result IsNumbered
  -- a refusal hands the call back, for Full exactly where the history holds its limit of entries
  pub given_back : IfErr result (λ e. e.call ≡ call)
  pub full : (length found ≡ v.limit) ↔ (is_full result ≡ true)
  -- what the seat has seen then is a history of one registry, which holds of its session just its list
  pub registry : IsHistory w.front
  pub bounded : length w.front ≤ w.limit
  pub own : made w.front w.session ≡ w.list
