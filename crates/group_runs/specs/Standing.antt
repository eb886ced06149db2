-- A run of any number of jobs, part of which was worked.
use Rattle.std.specs.Prelude.{◌≡◌, ◌+◌, ◌≤◌, Bool, true, false, List, ◌++◌, length, reverse, All, Vec, vec_len, vec_capacity, Result, IfOk, IfErr}
use Rattle.byte_streams.specs.declared.sink.Sink.{Ghosts as SinkOf}
use Rattle.byte_streams.specs.declared.source.Source.{Ghosts as SourceOf}
use Rattle.work_registry.specs.BookValue.{BookValue}
use Rattle.work_registry.specs.EntryValue.{EntryValue}
use Rattle.work_registry.specs.Replay.{is_opening}
use Rattle.cwr_engine.specs.WholeRun.{InTurn, IsRun}
use Rattle.cwr_engine.specs.declared.jobs.Job.{Job}
use Rattle.cwr_engine.specs.declared.jobs.Run.{Run}
use Rattle.cwr_engine.specs.declared.jobs.ServeRefused.{ServeRefused}
use Rattle.cwr_engine.specs.declared.outcome.FileOutcome.{FileOutcome}
use Rattle.group_runs.specs.LongRun.{IsLongRun}

-- the reader and the writer of each of these jobs have not failed
abbrev pub AreWorking : {R W : Type 0} → SourceOf R → SinkOf W → List (Job R W) → Type 0
AreWorking source sink jobs = All (λ j. (source.has_failed j.reader ≡ false) × (sink.has_failed j.writer ≡ false)) jobs

-- What stands between two groups: a run of the jobs that have ended, from a book on, and the jobs that are left, the
-- first of them last. There is room for all behind those that have ended.
pub record IsBetween {R W X Y Z : Type 0} (source : SourceOf R) (sink : SinkOf W) (P : Job R W → Job R W → FileOutcome → Bool → List EntryValue → Type 0)
    (opening : BookValue) (all : List (Job R W)) (book : BookValue) (ended : Vec (Job R W) X) (outcomes : Vec FileOutcome Y) (left : Vec (Job R W) Z) : Type 0 where
  -- the jobs that have ended, as they were before
  pub begun : List (Job R W)
  pub cut : all ≡ begun ++ reverse left.items
  pub run : IsLongRun P opening book begun ended.items outcomes.items
  -- each entry of the book is of the opening
  pub opened : is_opening book.history ≡ true
  pub works : AreWorking source sink left.items
  pub counts : vec_len outcomes ≡ vec_len ended
  pub ended_room : vec_len ended + vec_len left ≤ vec_capacity ended
  pub outcomes_room : vec_len ended + vec_len left ≤ vec_capacity outcomes

-- What stands while a group is worked: as between two groups, but that the group stands before the jobs that are left.
pub record IsTaken {R W X Y Z : Type 0} (source : SourceOf R) (sink : SinkOf W) (P : Job R W → Job R W → FileOutcome → Bool → List EntryValue → Type 0)
    (opening : BookValue) (all : List (Job R W)) (book : BookValue) (group : List (Job R W)) (ended : Vec (Job R W) X) (outcomes : Vec FileOutcome Y)
    (left : Vec (Job R W) Z) : Type 0 where
  pub begun : List (Job R W)
  pub cut : all ≡ begun ++ (group ++ reverse left.items)
  pub run : IsLongRun P opening book begun ended.items outcomes.items
  pub opened : is_opening book.history ≡ true
  pub works : AreWorking source sink left.items
  pub counts : vec_len outcomes ≡ vec_len ended
  pub ended_room : vec_len ended + length group + vec_len left ≤ vec_capacity ended
  pub outcomes_room : vec_len ended + length group + vec_len left ≤ vec_capacity outcomes

-- a group was worked as a run of its own, or memory was refused for it before its first job
abbrev pub WasServed : {R W Z : Type 0} → (Job R W → Job R W → FileOutcome → Bool → List EntryValue → Type 0) → BookValue → List (Job R W)
    → Result (Run R W Z) (ServeRefused R W Z) → Type 0
WasServed P before group served =
    IfOk served (λ run. IsRun P before run.book group run.jobs.items run.outcomes.items)
    × IfOk served (λ run. InTurn before.limit run.book.history 1 before.history run.outcomes.items)
    × IfErr served (λ back. (back.book ≡ before) × (back.jobs.items ≡ group))
