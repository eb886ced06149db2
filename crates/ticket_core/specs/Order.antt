-- The order in which places enter, read off the outcomes of a run.
use Rattle.std.specs.Prelude.{◌≡◌, ℕ, List, Option, Some, None, EachIndex, slice_index}
use Rattle.std.specs.List.{filter_map}
use Rattle.ticket_core.specs.declared.ticket_lock.Outcome.{Outcome}
use Rattle.ticket_core.specs.declared.ticket_lock.Outcome.TheVariants.{Enters}
use Rattle.ticket_core.specs.declared.array_lock.ArrayOutcome.{ArrayOutcome}
use Rattle.ticket_core.specs.declared.array_lock.ArrayOutcome.TheVariants.{Enters as ArrayEnters}

-- the ticket of an outcome that is an entry; `None` for any other outcome
abbrev pub entry_of : Outcome → Option ℕ
entry_of (Enters t) = Some t
entry_of _ = None

-- the same for the array lock
abbrev pub array_entry_of : ArrayOutcome → Option ℕ
array_entry_of (ArrayEnters t) = Some t
array_entry_of _ = None

-- the tickets of all entries, in the order in which they came
abbrev pub entries : List Outcome → List ℕ
entries outcomes = filter_map entry_of outcomes

-- the same for the array lock
abbrev pub array_entries : List ArrayOutcome → List ℕ
array_entries outcomes = filter_map array_entry_of outcomes

-- the k-th of the tickets, from 0, is ticket k: places enter in the order in which they drew
abbrev pub IsTicketOrder : List ℕ → Type 0
IsTicketOrder tickets = EachIndex tickets (λ k. slice_index tickets k ≡ k)
