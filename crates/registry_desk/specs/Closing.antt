-- The book that a desk is closed with.
use Rattle.std.specs.Prelude.{◌≡◌, ℕ, ◌≤◌, true, List, ◌++◌, length, All}
use mathlib.Core.Option.{some}
use mathlib.Core.List.{IsPrefix}
use lib.ListN.{get_elem?}
use Rattle.work_registry.specs.EntryValue.{EntryValue}
use Rattle.work_registry.specs.BookValue.{BookValue}
use Rattle.work_registry.specs.History.{IsHistory}
use Rattle.registry_desk.specs.declared.view.View.{View}
use Rattle.registry_desk.specs.declared.view.Met.{Met}
use Rattle.registry_desk.specs.Rule.{MetFits}

-- the history begins with what each of these seats, which the opening seat met, saw last
abbrev pub BeginsWithEach : List Met → List EntryValue → Type 0
BeginsWithEach met history = (k : ℕ) (m : Met) → get_elem? met k ≡ some m → IsPrefix m.front history

-- what a desk is closed with: a book that continues the history from the opening with the entries of all seats, where
-- v is the opening seat's view
pub record Closes (v : View) (b : BookValue) : Type 0 where
  pub limit : b.limit ≡ v.limit
  -- a history of one registry
  pub registry : IsHistory b.history
  pub bounded : length b.history ≤ b.limit
  -- the history that the desk was opened with, and then entries of the sessions given
  pub added : List EntryValue
  pub grown : b.history ≡ v.opened ++ added
  pub sessions : All (λ e. (1 ≤ e.session) × (e.session ≤ v.given)) added
  -- the history begins with what each seat that was met saw last
  pub begins : BeginsWithEach v.met b.history
  -- the entries of each seat that was met are the seat's list, and its mark says what it means
  pub met : (k : ℕ) (m : Met) → get_elem? v.met k ≡ some m → MetFits b.history b.limit m
  -- each session given was met
  pub each_met : (session : ℕ) → 1 ≤ session → session ≤ v.given
      → (k : ℕ) × (m : Met) × (get_elem? v.met k ≡ some m) × (m.session ≡ session)
  -- what the opening seat saw last, and what its mark says
  pub front : IsPrefix v.front b.history
  pub mark : v.marked ≡ true → length b.history ≡ b.limit
