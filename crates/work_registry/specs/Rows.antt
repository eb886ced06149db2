-- The accepted entries of a history, and which of them are in force.
use Rattle.std.specs.Prelude.{ℕ, ◌&&◌, Bool, List, [], ◌∷◌, ◌++◌, if◌then◌else◌, Option, Some, None}
use Rattle.std.specs.List.{list_any}
use Rattle.std.specs.Str.{bytes_eq}
use Rattle.cwr_call.specs.CallValue.{CallValue}
use Rattle.work_registry.specs.declared.key.Key.{Key}
use Rattle.work_registry.specs.declared.reply.Reply.{Reply}
use Rattle.work_registry.specs.declared.reply.Reply.TheVariants.{Accepted, Duplicate, Conflict, Rejected}
use Rattle.work_registry.specs.EntryValue.{EntryValue}

-- the key of a call: its submitter, and the submitter's number of the work
abbrev pub key_of : CallValue → Key
key_of call = record { submitter = call.submitter; number = call.number }

-- the two keys are equal, byte for byte
abbrev pub same_key : Key → Key → Bool
same_key a b = bytes_eq a.submitter b.submitter && bytes_eq a.number b.number

-- an accepted entry: its key, the work that it was accepted for, and the call's ISWC and control of each right
pub record Row : Type 0 where
  pub key : Key
  -- the registry's number of the work
  pub work : ℕ
  pub iswc : Option ℕ
  -- performing, mechanical and synchronization, in hundredths of one per cent
  pub control : List ℕ

-- the row of a call that was accepted for this work
abbrev pub row_of : CallValue → ℕ → Row
row_of call work = record { key = key_of call; work = work; iswc = call.iswc; control = call.control }

-- the row of an entry that was accepted; an empty list for any other reply
abbrev pub rows_of_entry : CallValue → Reply → List Row
rows_of_entry call (Accepted work version) = row_of call work ∷ []
rows_of_entry call (Duplicate work) = []
rows_of_entry call (Conflict work) = []
rows_of_entry call Rejected = []

-- the rows of a history: its accepted entries, the oldest first
abbrev pub rows_of : List EntryValue → List Row
rows_of [] = []
rows_of (e ∷ es) = rows_of_entry e.call e.reply ++ rows_of es

-- the first, or the other where there is none
abbrev pub or_else : {X : Type 0} → Option X → Option X → Option X
or_else None other = other
or_else (Some x) other = Some x

-- the last of a list that passes the test; `None` where none does
abbrev pub last_such : {X : Type 0} → (X → Bool) → List X → Option X
last_such test [] = None
last_such test (x ∷ xs) = or_else (last_such test xs) (if test x then Some x else None)

-- the last row of a key; `None` where the key has none
abbrev pub last_of_key : Key → List Row → Option Row
last_of_key k rows = last_such (λ r. same_key r.key k) rows

-- the current rows, in order: those that have no later row with their key
abbrev pub current : List Row → List Row
current [] = []
current (r ∷ rs) = if list_any (λ later. same_key later.key r.key) rs then current rs else r ∷ current rs
