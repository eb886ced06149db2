-- What a seat knows, and how each step changes it.
use Rattle.std.specs.Prelude.{ℕ, ◌+◌, ◌-◌, Bool, true, false, if◌then◌else◌, nat_le, List, [], ◌∷◌, ◌++◌, length, drop}
use Rattle.ticket_core.specs.declared.array_lock.ArrayPhase.{ArrayPhase}
use Rattle.ticket_core.specs.declared.array_lock.ArrayPhase.TheVariants.{Away, Waiting, Inside, Leaving}
use Rattle.work_registry.specs.EntryValue.{EntryValue}
use Rattle.work_registry.specs.BookValue.{BookValue}
use Rattle.registry_desk.specs.declared.view.View.{View}
use Rattle.registry_desk.specs.declared.view.Met.{Met}

-- the phase of a seat at the lock
abbrev pub phase_of : View → ArrayPhase
phase_of v = v.phase

-- the number of seats whose turns a view counts: its own and those of the seats that it met; 0 once it was met
abbrev pub seats_of : View → ℕ
seats_of v = if v.spent then 0 else 1 + length v.met

-- the number of turns of a seat and of the seats that it met
abbrev pub turns_of : View → ℕ
turns_of v = v.turns + v.met_turns

-- the greatest number of turns of one seat: the greatest u32
abbrev pub max_turns : ℕ
max_turns = 4294967295

-- the value of a flag's word while it is open
abbrev pub open_flag : ℕ
open_flag = 1

-- the view of a seat that has taken no turn, given no seat and met none
abbrev pub view_of : ℕ → ℕ → List EntryValue → List EntryValue → List EntryValue → ℕ → View
view_of session limit opened list front left = record {
  session = session;
  phase = Away;
  turns = 0;
  met_turns = 0;
  looks = [];
  list = list;
  front = front;
  marked = false;
  opened = opened;
  held = [];
  limit = limit;
  given = 0;
  left = left;
  met = [];
  spent = false;
}

-- what is left of a seat that another has met
abbrev pub spent_view : View
spent_view = record (view_of 0 0 [] [] [] 0) { spent = true }

-- the opening seat, of a desk with this many seats
abbrev pub opening_view : BookValue → ℕ → View
opening_view b seats = view_of 0 b.limit b.history b.history b.history (seats - 1)

-- the view once the seat has drawn this ticket
abbrev pub drawn : View → ℕ → View
drawn v ticket = record v { phase = Waiting ticket; turns = v.turns + 1; looks = [] }

-- the view once the seat has read this word in its flag
abbrev pub looked : View → ℕ → View
looked v found = record v { looks = v.looks ++ found ∷ [] }

-- the view once the seat has read that its flag is open, and has found this history
abbrev pub entered : View → ℕ → List EntryValue → View
entered v ticket history = record (looked v open_flag) { phase = Inside ticket; held = history }

-- the view after a turn that left this history: what comes behind the history found is the seat's own, and `full` says
-- whether a call found the book full
abbrev pub after_turn : View → Bool → List EntryValue → View
after_turn v full history = record v {
  phase = Away;
  looks = [];
  list = v.list ++ drop (length v.held) history;
  front = history;
  marked = if full then true else v.marked;
  held = [];
}

-- the view once the seat has put the book back, and closed its flag
abbrev pub shut : View → ℕ → Bool → List EntryValue → View
shut v ticket full history = record (after_turn v full history) { phase = Leaving ticket }

-- the view once the seat has opened the next flag
abbrev pub passed : View → View
passed v = record v { phase = Away }

-- the view once the seat has given a seat
abbrev pub giving : View → View
giving v = record v { given = v.given + 1; left = v.left - 1 }

-- the view of the seat that it gave
abbrev pub given_view : View → View
given_view v = view_of (v.given + 1) v.limit v.opened [] v.front 0

-- the longer of two histories, and the second where they are equally long
abbrev pub longer : List EntryValue → List EntryValue → List EntryValue
longer xs ys = if nat_le (length xs) (length ys) then ys else xs

-- what the opening seat learns of a seat that it meets
abbrev pub met_of : View → Met
met_of w = record { session = w.session; list = w.list; front = w.front; marked = w.marked }

-- the view once the seat has met another one
abbrev pub meeting : View → View → View
meeting v w = record v {
  met_turns = v.met_turns + turns_of w;
  front = longer v.front w.front;
  marked = if w.marked then true else v.marked;
  met = v.met ++ met_of w ∷ [];
}
