-- Calls that are handed in one after another, and the entries of one session.
use Rattle.std.specs.Prelude.{ℕ, ◌+◌, ◌==◌, if◌then◌else◌, Bool, List, [], ◌∷◌, ◌++◌, map, filter}
use Rattle.std.specs.List.{list_all}
use Rattle.cwr_call.specs.CallValue.{CallValue}
use Rattle.work_registry.specs.EntryValue.{EntryValue, entry_of}
use Rattle.work_registry.specs.Rows.{rows_of}
use Rattle.work_registry.specs.Reply.{reply_to}

-- the entry of a call that a session hands in after a history: it has the reply of one registry
abbrev pub entry_for : ℕ → List EntryValue → CallValue → EntryValue
entry_for session history call = entry_of session call (reply_to (rows_of history) call)

-- what the calls get when a session hands them in one after another: one entry per call, in order, each with the reply
-- after the entries before it
abbrev pub replay : ℕ → List EntryValue → List CallValue → List EntryValue
replay session history [] = []
replay session history (call ∷ calls) = entry_for session history call ∷ replay session (history ++ entry_for session history call ∷ []) calls

-- the calls of the entries, in order
abbrev pub calls_of : List EntryValue → List CallValue
calls_of history = map (λ e. e.call) history

-- the entries that a session made, in their order in the history
abbrev pub made : List EntryValue → ℕ → List EntryValue
made history session = filter (λ e. e.session == session) history

-- how many entries at the front are of session 0, the opening, up to the first that is not
abbrev pub opening_count : List EntryValue → ℕ
opening_count [] = 0
opening_count (e ∷ history) = if e.session == 0 then 1 + opening_count history else 0

-- all entries are of session 0, the opening
abbrev pub is_opening : List EntryValue → Bool
is_opening history = list_all (λ e. e.session == 0) history
