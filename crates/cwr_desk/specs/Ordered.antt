-- Jobs whose files are read in groups, each while the one before is decided, job after job.
use Rattle.std.specs.Prelude.{◌≡◌, ℕ, ◌+◌, ◌<◌, ◌≤◌, Bool, false, List, [], ◌∷◌, ◌++◌, map, reverse, All, Vec, vec_len, vec_capacity}
use Rattle.byte_streams.specs.declared.sink.Sink.{Ghosts as SinkOf}
use Rattle.byte_streams.specs.declared.source.Source.{Ghosts as SourceOf}
use Rattle.work_registry.specs.BookValue.{BookValue}
use Rattle.work_registry.specs.EntryValue.{EntryValue}
use Rattle.cwr_engine.specs.JobSteps.{WasRead}
use Rattle.cwr_engine.specs.WholeRun.{TookTurns}
use Rattle.cwr_engine.specs.declared.jobs.Job.{Job}
use Rattle.cwr_engine.specs.declared.outcome.FileOutcome.{FileOutcome}
use Rattle.cwr_engine.specs.declared.steps.ReadJob.{ReadJob}

-- the number of files that are read at the same time
abbrev pub group_size : ℕ
group_size = 8

-- the reader and the writer of each of these jobs have not failed
abbrev pub AreWorking : {R W : Type 0} → SourceOf R → SinkOf W → List (Job R W) → Type 0
AreWorking source sink jobs = All (λ j. (source.has_failed j.reader ≡ false) × (sink.has_failed j.writer ≡ false)) jobs

-- the file of each of these jobs was read, and the writer of each has not failed
abbrev pub AreRead : {R W Z : Type 0} → SourceOf R → SinkOf W → List (Job R W) → List (ReadJob R W Z) → Type 0
AreRead source sink [] [] = Unit {0}
AreRead source sink [] (r ∷ rs) = ⊥
AreRead source sink (j ∷ js) [] = ⊥
AreRead source sink (j ∷ js) (r ∷ rs) = WasRead source j r × (sink.has_failed r.job.writer ≡ false) × AreRead source sink js rs

-- what reading the first `most` of these jobs requires: readers and writers that have not failed, an empty list, and
-- capacity in it
pub record IsGroupUnread {R W Z Y X : Type 0} (source : SourceOf R) (sink : SinkOf W) (most : ℕ) (jobs : Vec (Job R W) Z) (group : Vec (ReadJob R W Y) X) : Type 0 where
  pub works : AreWorking source sink jobs.items
  pub none : group.items ≡ []
  pub room : most ≤ vec_capacity group

-- What reading a group leaves: the first of the jobs, at most `most`, were read, and the others are left. Each list
-- has its first job last.
pub record HasReadGroup {R W Z Y X : Type 0} (source : SourceOf R) (sink : SinkOf W) (most : ℕ) (jobs jobs_after : Vec (Job R W) Z)
    (group group_after : Vec (ReadJob R W Y) X) : Type 0 where
  -- the jobs that were read, in order
  pub front : List (Job R W)
  -- the jobs before are these and those that are left
  pub cut : reverse jobs.items ≡ front ++ reverse jobs_after.items
  pub read : AreRead source sink front (reverse group_after.items)
  pub works : AreWorking source sink jobs_after.items
  pub few : vec_len group_after ≤ most
  pub count : vec_len group_after + vec_len jobs_after ≡ vec_len jobs
  -- where none was read, none is left
  pub some : 0 < most → vec_len group_after ≡ 0 → vec_len jobs_after ≡ 0
  pub room : vec_capacity group ≤ vec_capacity group_after

-- jobs were decided one after another at one book, and answered, the first of them as the given session
abbrev pub TookTurnsAs : {J : Type 0} → (J → J → FileOutcome → Bool → List EntryValue → Type 0) → ℕ → List J → List (J × FileOutcome) → BookValue → BookValue → Type 0
TookTurnsAs P session js worked before after = TookTurns P session js (map (λ w. w.0) worked) (map (λ w. w.1) worked) before after

-- What deciding a group requires: a session for each of its jobs, which were read, and a list for as many that have
-- ended, of which there are none yet. Each list has its first job last.
pub record IsGroupReady {R W Z Y X : Type 0} (source : SourceOf R) (sink : SinkOf W) (session : ℕ) (group : Vec (ReadJob R W Y) Z)
    (worked : Vec (Job R W × FileOutcome) X) : Type 0 where
  pub few : session + vec_len group ≤ 64
  -- the jobs of the group before they were read
  pub jobs : List (Job R W)
  pub read : AreRead source sink jobs (reverse group.items)
  pub none : worked.items ≡ []
  pub room : vec_len group ≤ vec_capacity worked

-- what deciding a group leaves: the jobs that were read have taken turns at the book
pub record HasDecidedGroup {R W Z Y X : Type 0} (source : SourceOf R) (sink : SinkOf W)
    (P : Job R W → Job R W → FileOutcome → Bool → List EntryValue → Type 0) (session : ℕ) (book book_after : BookValue)
    (group group_after : Vec (ReadJob R W Y) Z) (worked worked_after : Vec (Job R W × FileOutcome) X) : Type 0 where
  pub took : (jobs : List (Job R W)) → AreRead source sink jobs (reverse group.items) → TookTurnsAs P session jobs (reverse worked_after.items) book book_after
  pub emptied : group_after.items ≡ []
  pub group_room : vec_capacity group ≤ vec_capacity group_after
  pub count : vec_len worked_after ≡ vec_len group
  pub worked_room : vec_capacity worked ≤ vec_capacity worked_after

-- what continuing a run requires: a group that was read, no larger than `group_size`, and empty only where no job is
-- left; jobs whose readers and writers have not failed; as many outcomes as jobs that have ended; capacity for all;
-- and two empty lists for the groups to come
pub record IsRunReady {R W Z Y X V : Type 0} (source : SourceOf R) (sink : SinkOf W) (ended : Vec (Job R W) Z) (outcomes : Vec FileOutcome X)
    (group : Vec (ReadJob R W Y) V) (jobs : Vec (Job R W) Z) (next : Vec (ReadJob R W Y) V) (worked : Vec (Job R W × FileOutcome) X) : Type 0 where
  pub few : vec_len ended + vec_len group + vec_len jobs < 64
  pub counts : vec_len outcomes ≡ vec_len ended
  pub ended_room : vec_len ended + vec_len group + vec_len jobs ≤ vec_capacity ended
  pub outcomes_room : vec_len ended + vec_len group + vec_len jobs ≤ vec_capacity outcomes
  -- the jobs of the group before they were read
  pub jobs_read : List (Job R W)
  pub read : AreRead source sink jobs_read (reverse group.items)
  pub works : AreWorking source sink jobs.items
  pub group_few : vec_len group ≤ group_size
  -- the group is empty only where no job is left
  pub last : vec_len group ≡ 0 → vec_len jobs ≡ 0
  pub group_room : group_size ≤ vec_capacity group
  pub next_none : next.items ≡ []
  pub next_room : group_size ≤ vec_capacity next
  pub worked_none : worked.items ≡ []
  pub worked_room : group_size ≤ vec_capacity worked

-- what the rest of a run leaves: behind the jobs that had ended, those that were read and those that were left have
-- taken turns
pub record HasOrdered {R W Z Y X V : Type 0} (source : SourceOf R) (sink : SinkOf W)
    (P : Job R W → Job R W → FileOutcome → Bool → List EntryValue → Type 0) (book : BookValue) (ended : Vec (Job R W) Z) (outcomes : Vec FileOutcome X)
    (group : Vec (ReadJob R W Y) V) (jobs : Vec (Job R W) Z) (book_after : BookValue) (ended_after : Vec (Job R W) Z) (outcomes_after : Vec FileOutcome X) : Type 0 where
  pub took : (jobs_read : List (Job R W)) → AreRead source sink jobs_read (reverse group.items) → (worked : List (Job R W × FileOutcome))
      × (ended_after.items ≡ ended.items ++ map (λ w. w.0) worked) × (outcomes_after.items ≡ outcomes.items ++ map (λ w. w.1) worked)
      × TookTurnsAs P (vec_len ended + 1) (jobs_read ++ reverse jobs.items) worked book book_after
