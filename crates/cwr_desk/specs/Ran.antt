-- Jobs worked at one desk.
use Rattle.std.specs.Prelude.{◌≡◌, ◌≢◌, ℕ, ◌+◌, ◌≤◌, Bool, false, List, [], ◌∷◌, ◌++◌, reverse, All, Vec, vec_len, vec_capacity}
use Rattle.byte_streams.specs.declared.sink.Sink.{Ghosts as SinkOf}
use Rattle.byte_streams.specs.declared.source.Source.{Ghosts as SourceOf}
use Rattle.work_registry.specs.EntryValue.{EntryValue}
use Rattle.registry_desk.specs.Standing.{DeskId, Standing}
use Rattle.registry_desk.specs.declared.view.Met.{Met}
use Rattle.cwr_engine.specs.declared.jobs.Job.{Job}
use Rattle.cwr_engine.specs.declared.outcome.FileOutcome.{FileOutcome}
use Rattle.cwr_desk.specs.Sights.{saw_full}

-- A job was worked at the seat of the given session, and then the others at theirs. `Others between` says that the seats
-- met before the job's are `between`: those met at first, and those of the others.
pub record RanNext {J : Type 0} (P : J → J → FileOutcome → Bool → List EntryValue → Type 0) (limit session : ℕ) (j k : J)
    (outcome : FileOutcome) (Others : List Met → Type 0) (after : List Met) : Type 0 where
  -- the seats that were met before the job's
  pub between : List Met
  -- the job's seat: what the opening seat learned of it
  pub seat : Met
  pub others : Others between
  -- the job's seat was met last
  pub met_last : after ≡ between ++ seat ∷ []
  pub session_is : seat.session ≡ session
  -- the job has its account with the seat's entries and the history that the seat saw last
  pub account : P j k outcome (saw_full limit seat.front) seat.list

-- Jobs were worked at one desk, the first of them at the seat of the given session: of each job's seat the desk's
-- opening seat has learned the entries and the history that it saw last, with which the job has its account. The lists
-- of `Met` are the seats that the opening seat had met before and has met after; the first job's seat was given first
-- and met last.
abbrev pub Ran : {J : Type 0} → (J → J → FileOutcome → Bool → List EntryValue → Type 0) → ℕ → ℕ → List J → List J → List FileOutcome → List Met → List Met → Type 0
Ran P limit session [] [] [] before after = after ≡ before
Ran P limit session [] [] (o ∷ os) before after = ⊥
Ran P limit session [] (k ∷ ks) os before after = ⊥
Ran P limit session (j ∷ js) [] os before after = ⊥
Ran P limit session (j ∷ js) (k ∷ ks) [] before after = ⊥
Ran P limit session (j ∷ js) (k ∷ ks) (o ∷ os) before after =
    RanNext P limit session j k o (λ between. Ran P limit (session + 1) js ks os before between) after

-- what working a job requires: a seat of this desk, not the opening one, that has taken no turn; a reader and a writer
-- that have not failed
pub record MayWork {R W : Type 0} (source : SourceOf R) (sink : SinkOf W) (desk : DeskId) (seat : Standing) (job : Job R W) : Type 0 where
  pub ours : seat.desk ≡ desk
  -- it is not the opening seat
  pub guest : seat.view.session ≢ 0
  pub turns : seat.view.turns ≡ 0
  pub list : seat.view.list ≡ []
  pub reads : source.has_failed job.reader ≡ false
  pub writes : sink.has_failed job.writer ≡ false

-- what working a job leaves: a seat that shows the job's entries and the history that it saw last, with which the job
-- has its account
pub record HasWorked {J : Type 0} (P : J → J → FileOutcome → Bool → List EntryValue → Type 0) (desk : DeskId) (seat seat_after : Standing)
    (job job_after : J) (outcome : FileOutcome) : Type 0 where
  pub ours : seat_after.desk ≡ desk
  pub session : seat_after.view.session ≡ seat.view.session
  pub limit : seat_after.view.limit ≡ seat.view.limit
  pub account : P job job_after outcome (saw_full seat.view.limit seat_after.view.front) seat_after.view.list

-- what working jobs requires: the opening seat of this desk, with a seat left for each; readers and writers that have
-- not failed; and a list with capacity for the outcomes, of which there are none yet
pub record MayRun {R W Z : Type 0} (source : SourceOf R) (sink : SinkOf W) (desk : DeskId) (opening : Standing)
    (jobs : Vec (Job R W) Z) (outcomes : Vec FileOutcome Z) : Type 0 where
  pub ours : opening.desk ≡ desk
  pub session : opening.view.session ≡ 0
  pub seats : vec_len jobs ≤ opening.view.left
  pub works : All (λ j. (source.has_failed j.reader ≡ false) × (sink.has_failed j.writer ≡ false)) jobs.items
  pub none : outcomes.items ≡ []
  pub room : vec_len jobs ≤ vec_capacity outcomes

-- what working jobs leaves: the opening seat, which has given a seat for each job and met it; the jobs and their
-- outcomes, the last job first, in lists with at least the capacity that they had
pub record HaveRun {J Z : Type 0} (P : J → J → FileOutcome → Bool → List EntryValue → Type 0) (desk : DeskId) (opening opening_after : Standing)
    (jobs jobs_after : Vec J Z) (outcomes outcomes_after : Vec FileOutcome Z) : Type 0 where
  pub ours : opening_after.desk ≡ desk
  pub session : opening_after.view.session ≡ 0
  -- one seat was given for each job
  pub given : opening_after.view.given ≡ opening.view.given + vec_len jobs
  pub opened : opening_after.view.opened ≡ opening.view.opened
  pub limit : opening_after.view.limit ≡ opening.view.limit
  -- the jobs were worked at these seats
  pub ran : Ran P opening.view.limit (opening.view.given + 1) (reverse jobs.items) (reverse jobs_after.items) (reverse outcomes_after.items)
      opening.view.met opening_after.view.met
  pub job_count : vec_len jobs_after ≡ vec_len jobs
  pub job_room : vec_capacity jobs ≤ vec_capacity jobs_after
  pub outcome_count : vec_len outcomes_after ≡ vec_len jobs
  pub outcome_room : vec_capacity outcomes ≤ vec_capacity outcomes_after
