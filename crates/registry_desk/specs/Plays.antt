-- What each atomic step says about the seat that makes it: the step, the seat before, the word found (at a store, the
-- word stored) and the seat after.
use Rattle.std.specs.Prelude.{◌≡◌, ◌≢◌, ℕ, ◌+◌, ◌≤◌, Bool, List, [], ◌∷◌, length, Option, Some}
use mathlib.Core.List.{IsPrefix}
use Rattle.atomic_table.specs.Table.{Me, Step}
use Rattle.ticket_core.specs.ArrayLock.{flag_of}
use Rattle.ticket_core.specs.declared.array_lock.ArrayPhase.TheVariants.{Away, Waiting, Inside, Leaving}
use Rattle.work_registry.specs.EntryValue.{EntryValue}
use Rattle.work_registry.specs.BookValue.{BookValue}
use Rattle.work_registry.specs.History.{IsHistory}
use Rattle.work_registry.specs.Replay.{made}
use Rattle.registry_desk.specs.declared.view.View.{View}
use Rattle.registry_desk.specs.Views.{open_flag, drawn, looked, entered, shut, passed}

-- a seat's view, and what it has out of slots: the book while it is inside
abbrev pub Seated : Type 0
Seated = Me (Option BookValue) View

-- a book with this history, and the limit that the seat knows
abbrev pub book_with : View → List EntryValue → BookValue
book_with v history = record { history = history; limit = v.limit }

-- what a seat that is let in finds: a history of one registry, which begins with what the seat saw last, and has of
-- its session just the seat's own list
pub record Finds (v : View) (history : List EntryValue) : Type 0 where
  pub registry : IsHistory history
  pub bounded : length history ≤ v.limit
  -- it begins with what the seat saw last
  pub front : IsPrefix v.front history
  -- the entries of the seat's session in it are the seat's list
  pub list : made history v.session ≡ v.list

-- the index of the word that is the flag of a ticket
abbrev pub flag_word_of : ℕ → ℕ
flag_word_of ticket = flag_of ticket + 1

-- The word is that of the next ticket, and the seat had none. The number found is its ticket.
abbrev pub Draws : Step (Option BookValue) → Seated → ℕ → Seated → Type 0
Draws step me ticket after = (step.word ≡ 0) × (me.0.phase ≡ Away) × (after ≡ (drawn me.0 ticket, me.1))

-- The word is the flag of the seat's ticket. Where an open flag is found, the seat is inside, with the book; else it
-- waits on.
abbrev pub Looks : Step (Option BookValue) → Seated → ℕ → Seated → Type 0
Looks step me found after = (ticket : ℕ) × (me.0.phase ≡ Waiting ticket) × (step.word ≡ flag_word_of ticket)
    × (found ≡ open_flag → (history : List EntryValue)
    × (after ≡ (entered me.0 ticket history, (0, Some (book_with me.0 history)) ∷ me.1)) × Finds me.0 history)
    × (found ≢ open_flag → after ≡ (looked me.0 found, me.1))

-- The word is the flag of the seat's ticket. The book that the seat had is back in its slot, with the turn's entry.
abbrev pub Shuts : Bool → Step (Option BookValue) → Seated → ℕ → Seated → Type 0
Shuts full step me stored after = (ticket : ℕ) × (b : BookValue) × (me.0.phase ≡ Inside ticket) × (me.1 ≡ (0, Some b) ∷ [])
    × (step.word ≡ flag_word_of ticket) × (after ≡ (shut me.0 ticket full b.history, []))

-- the word is the flag of the ticket after the seat's own
abbrev pub Passes : Step (Option BookValue) → Seated → ℕ → Seated → Type 0
Passes step me stored after = (ticket : ℕ) × (me.0.phase ≡ Leaving ticket) × (step.word ≡ flag_word_of (ticket + 1))
    × (after ≡ (passed me.0, me.1))

-- the opening seat learns that it has met no more seats than it gave
abbrev pub Counts : Step (Option BookValue) → Seated → ℕ → Seated → Type 0
Counts step me found after = (after ≡ me) × (length me.0.met ≤ me.0.given)
