-- A whole run of jobs.
use Rattle.std.specs.Prelude.{◌≡◌, ℕ, ◌+◌, ◌≤◌, Bool, true, nat_le, List, [], ◌∷◌, ◌++◌, length, All}
use Rattle.work_registry.specs.BookValue.{BookValue}
use Rattle.work_registry.specs.EntryValue.{EntryValue}
use Rattle.work_registry.specs.History.{IsHistory}
use Rattle.work_registry.specs.Numbers.{max_entries}
use Rattle.work_registry.specs.Replay.{calls_of, replay, made}
use Rattle.cwr_engine.specs.Causes.{ends_full}
use Rattle.cwr_engine.specs.declared.outcome.FileOutcome.{FileOutcome}

-- Each job has its account with the entries that its session made in the history, where the first of the jobs has the
-- given session, and each other one the next. `P before after outcome full entries` is the account of one job, of any
-- kind.
abbrev pub Accounts : {J : Type 0} → (J → J → FileOutcome → Bool → List EntryValue → Type 0) → List EntryValue → Bool → ℕ → List J → List J → List FileOutcome
    → Type 0
Accounts P history full session [] [] [] = Unit {0}
Accounts P history full session [] [] (o ∷ os) = ⊥
Accounts P history full session [] (k ∷ ks) os = ⊥
Accounts P history full session (j ∷ js) [] os = ⊥
Accounts P history full session (j ∷ js) (k ∷ ks) [] = ⊥
Accounts P history full session (j ∷ js) (k ∷ ks) (o ∷ os) = P j k o full (made history session) × Accounts P history full (session + 1) js ks os

-- the history holds its limit of entries
abbrev pub is_full : BookValue → Bool
is_full book = nat_le book.limit (length book.history)

-- What a whole run leaves: the book that is kept has the opening book's limit, and its history is one of a registry:
-- the opening history, and then entries of the jobs' sessions, session i for job i, from 1. Each job has its account
-- with it.
pub record IsRun {J : Type 0} (P : J → J → FileOutcome → Bool → List EntryValue → Type 0) (opening kept : BookValue) (before after : List J)
    (outcomes : List FileOutcome) : Type 0 where
  pub registry : IsHistory kept.history
  pub bounded : length kept.history ≤ kept.limit
  pub limit : kept.limit ≡ opening.limit
  -- the entries that came behind the opening history
  pub added : List EntryValue
  -- the opening history comes first
  pub grown : kept.history ≡ opening.history ++ added
  -- each entry that was added is of a job's session
  pub sessions : All (λ e. (1 ≤ e.session) × (e.session ≤ length before)) added
  -- job i has its account with the entries of session i, from 1
  pub accounts : Accounts P kept.history (is_full kept) 1 before after outcomes

-- a job's session took its turn, and then the others did
pub record InTurnNext (limit session : ℕ) (history entries : List EntryValue) (outcome : FileOutcome) (Others : Type 0) : Type 0 where
  -- the session's entries are what its calls get after the history before
  pub replayed : entries ≡ replay session history (calls_of entries)
  -- where the job stopped because the book was full, the history held its limit at the job's end
  pub full : ends_full outcome ≡ true → is_full (record { history = history ++ entries; limit = limit }) ≡ true
  -- the sessions of the other jobs took theirs after it
  pub others : Others

-- The kept history is this one, followed by the entries of the jobs' sessions, one session after another: each
-- session's are what its calls get when they are handed in after the entries before. Where a job stopped because the
-- book was full, the history held its limit of entries at that job's end.
abbrev pub InTurn : ℕ → List EntryValue → ℕ → List EntryValue → List FileOutcome → Type 0
InTurn limit kept session history [] = kept ≡ history
InTurn limit kept session history (outcome ∷ outcomes) =
    InTurnNext limit session history (made kept session) outcome (InTurn limit kept (session + 1) (history ++ made kept session) outcomes)

-- one job was worked at a book that nobody else writes
pub record IsWorkedAlone {J : Type 0} (P : J → J → FileOutcome → Bool → List EntryValue → Type 0) (session : ℕ) (before after : BookValue)
    (j k : J) (outcome : FileOutcome) : Type 0 where
  pub entries : List EntryValue
  -- the replies are those of one registry
  pub replayed : entries ≡ replay session before.history (calls_of entries)
  -- the entries come behind the history before
  pub grown : after.history ≡ before.history ++ entries
  pub limit : after.limit ≡ before.limit
  pub account : P j k outcome (is_full after) entries

-- one job was worked alone as session 1, at an empty book with the greatest limit that a book can have
pub record IsWorkedFirst {J : Type 0} (P : J → J → FileOutcome → Bool → List EntryValue → Type 0) (j k : J) (outcome : FileOutcome) : Type 0 where
  -- the book as the job left it
  pub kept : BookValue
  pub alone : IsWorkedAlone P 1 (record { history = []; limit = max_entries }) kept j k outcome

-- A job was worked alone as the given session, and then the others. `Others between` says that they took turns from the
-- book `between` on.
pub record TookNext {J : Type 0} (P : J → J → FileOutcome → Bool → List EntryValue → Type 0) (session : ℕ) (before : BookValue) (j k : J)
    (outcome : FileOutcome) (Others : BookValue → Type 0) : Type 0 where
  -- the book behind the job, and before the others
  pub between : BookValue
  pub alone : IsWorkedAlone P session before between j k outcome
  pub others : Others between

-- jobs were worked one after another at one book, the first of them as the given session, each other one as the next
abbrev pub TookTurns : {J : Type 0} → (J → J → FileOutcome → Bool → List EntryValue → Type 0) → ℕ → List J → List J → List FileOutcome → BookValue → BookValue
    → Type 0
TookTurns P session [] [] [] before after = after ≡ before
TookTurns P session [] [] (o ∷ os) before after = ⊥
TookTurns P session [] (k ∷ ks) os before after = ⊥
TookTurns P session (j ∷ js) [] os before after = ⊥
TookTurns P session (j ∷ js) (k ∷ ks) [] before after = ⊥
TookTurns P session (j ∷ js) (k ∷ ks) (o ∷ os) before after =
    TookNext P session before j k o (λ between. TookTurns P (session + 1) js ks os between after)
