-- A run of any number of jobs at one book.
use Rattle.std.specs.Prelude.{◌≡◌, ℕ, ◌≤◌, Bool, List, [], ◌∷◌, ◌++◌, length}
use Rattle.work_registry.specs.BookValue.{BookValue}
use Rattle.work_registry.specs.EntryValue.{EntryValue}
use Rattle.work_registry.specs.History.{IsHistory}
use Rattle.work_registry.specs.Replay.{calls_of, replay}
use Rattle.cwr_engine.specs.WholeRun.{is_full}
use Rattle.cwr_engine.specs.declared.outcome.FileOutcome.{FileOutcome}

-- lists one behind the other
abbrev pub joined : List (List EntryValue) → List EntryValue
joined [] = []
joined (piece ∷ pieces) = piece ++ joined pieces

-- These are the entries of a job that was worked after a history, at a book of this limit: what its calls get after
-- that history, as entries of the opening. The job has its account with them.
pub record IsPiece {J : Type 0} (P : J → J → FileOutcome → Bool → List EntryValue → Type 0) (limit : ℕ) (history : List EntryValue) (j k : J)
    (outcome : FileOutcome) (piece : List EntryValue) : Type 0 where
  pub replayed : piece ≡ replay 0 history (calls_of piece)
  pub account : P j k outcome (is_full (record { history = history ++ piece; limit = limit })) piece

-- each job has its piece, in order: the first after this history, and each other one after the pieces before it, too
abbrev pub ArePieces : {J : Type 0} → (J → J → FileOutcome → Bool → List EntryValue → Type 0) → ℕ → List EntryValue → List J → List J → List FileOutcome
    → List (List EntryValue) → Type 0
ArePieces P limit history [] [] [] [] = Unit {0}
ArePieces P limit history [] [] [] (p ∷ ps) = ⊥
ArePieces P limit history [] [] (o ∷ os) ps = ⊥
ArePieces P limit history [] (k ∷ ks) os ps = ⊥
ArePieces P limit history (j ∷ js) [] os ps = ⊥
ArePieces P limit history (j ∷ js) (k ∷ ks) [] ps = ⊥
ArePieces P limit history (j ∷ js) (k ∷ ks) (o ∷ os) [] = ⊥
ArePieces P limit history (j ∷ js) (k ∷ ks) (o ∷ os) (p ∷ ps) =
    IsPiece P limit history j k o p × ArePieces P limit (history ++ p) js ks os ps

-- What a run of any number of jobs leaves. The book that is kept has the opening book's limit, and its history is one
-- of one registry: the opening history, and behind it a piece for each job, in the order of the jobs.
pub record IsLongRun {J : Type 0} (P : J → J → FileOutcome → Bool → List EntryValue → Type 0) (opening kept : BookValue) (before after : List J)
    (outcomes : List FileOutcome) : Type 0 where
  pub registry : IsHistory kept.history
  pub bounded : length kept.history ≤ kept.limit
  pub limit : kept.limit ≡ opening.limit
  pub pieces : List (List EntryValue)
  -- the opening history comes first, and then the pieces
  pub grown : kept.history ≡ opening.history ++ joined pieces
  pub worked : ArePieces P opening.limit opening.history before after outcomes pieces

-- What a run leaves for which memory was refused: some jobs from the first on were worked, as by a run of these alone,
-- and the others are as they were.
pub record IsCutShort {J : Type 0} (P : J → J → FileOutcome → Bool → List EntryValue → Type 0) (opening kept : BookValue) (before after : List J)
    (outcomes : List FileOutcome) : Type 0 where
  -- the jobs that were worked, as they were before, and as they are
  pub begun : List J
  pub ended : List J
  -- the jobs that were not begun
  pub rest : List J
  pub cut : before ≡ begun ++ rest
  pub left : after ≡ ended ++ rest
  pub run : IsLongRun P opening kept begun ended outcomes
