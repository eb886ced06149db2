-- A chain of runs, each from the register that the one before has written.
use Rattle.std.specs.Prelude.{◌≡◌, ◌≤◌, Bool, true, List, [], ◌∷◌, ◌++◌, length}
use Rattle.std.specs.List.{AllByRecursion}
use Rattle.work_registry.specs.BookValue.{BookValue}
use Rattle.work_registry.specs.EntryValue.{EntryValue}
use Rattle.work_registry.specs.History.{IsHistory}
use Rattle.work_registry.specs.Numbers.{max_entries}
use Rattle.work_registry.specs.Register.{IsWholeEntry, register_text}
use Rattle.work_registry.specs.Replay.{is_opening}
use Rattle.cwr_engine.specs.WholeRun.{InTurn, IsRun}
use Rattle.cwr_engine.specs.declared.outcome.FileOutcome.{FileOutcome}

-- the jobs of a run as they were and as they are, and how each ended
pub record GroupRun (J : Type 0) : Type 0 where
  pub before : List J
  pub after : List J
  pub outcomes : List FileOutcome

abbrev pub jobs_before : {J : Type 0} → List (GroupRun J) → List J
jobs_before [] = []
jobs_before (run ∷ runs) = run.before ++ jobs_before runs

abbrev pub jobs_after : {J : Type 0} → List (GroupRun J) → List J
jobs_after [] = []
jobs_after (run ∷ runs) = run.after ++ jobs_after runs

abbrev pub all_outcomes : {J : Type 0} → List (GroupRun J) → List FileOutcome
all_outcomes [] = []
all_outcomes (run ∷ runs) = run.outcomes ++ all_outcomes runs

-- the second book is what is read of the register of the first
pub record IsReadBack (written read : BookValue) : Type 0 where
  pub text : register_text read.history ≡ register_text written.history
  pub lawful : IsHistory read.history
  pub opening : is_opening read.history ≡ true
  pub limit : read.limit ≡ written.limit
  pub fits : length read.history ≤ read.limit
  pub few_written : length written.history ≤ max_entries
  pub few_read : length read.history ≤ max_entries
  pub whole_written : AllByRecursion IsWholeEntry written.history
  pub whole_read : AllByRecursion IsWholeEntry read.history

-- A run from a book on, and the others from the book that is read of its register. `Others next` says that they went
-- on from the book `next`.
pub record RunThen {J : Type 0} (P : J → J → FileOutcome → Bool → List EntryValue → Type 0) (opening : BookValue) (run : GroupRun J) (Others : BookValue → Type 0) : Type 0 where
  -- what the run left
  pub worked : BookValue
  -- the book that is read of its register
  pub next : BookValue
  pub is_run : IsRun P opening worked run.before run.after run.outcomes
  pub in_turn : InTurn opening.limit worked.history 1 opening.history run.outcomes
  pub read_back : IsReadBack worked next
  pub others : Others next

-- these runs followed one another, the first from this book on, and the last left the other one, read of its register
abbrev pub Chained : {J : Type 0} → (J → J → FileOutcome → Bool → List EntryValue → Type 0) → BookValue → BookValue → List (GroupRun J) → Type 0
Chained P opening kept [] = kept ≡ opening
Chained P opening kept (run ∷ runs) = RunThen P opening run (λ next. Chained P next kept runs)
