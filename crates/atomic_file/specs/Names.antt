-- What lies under the names of a `Storage`: that of one file, and those of the files that follow it.
use Rattle.std.specs.Prelude.{◌≡◌, ℕ, Bool, true, false, List, [], ◌++◌, Option, Some, length, map, get_or, slice_set}

-- the bytes of the file under a name; `None` where no file is there
abbrev pub Lying : Type 0
Lying = Option (List ℕ)

-- what lies under all the names at one moment
pub record Names : Type 0 where
  pub file : Lying
  pub followers : List Lying

-- the same names with this text under the file's name
abbrev pub with_file : List ℕ → Names → Names
with_file text names = record names { file = Some text }

-- the same names with this text under the name of the follower at this position, from 0
abbrev pub with_follower : ℕ → List ℕ → Names → Names
with_follower at text names = record names { followers = slice_set names.followers at (Some text) }

-- The known state of a `Storage`: its names and its drafts. Each list has one element per follower, in order.
pub record State : Type 0 where
  -- what a read under the names gives now
  pub names : Names
  -- the bytes that the draft of the file took since it was begun
  pub draft : List ℕ
  -- the bytes of each follower's draft
  pub waiting : List (List ℕ)
  -- for each follower, whether its draft is on disk
  pub synced : List Bool
  -- for each follower, whether it is reported as refused: its draft could not be put in place
  pub refused : List Bool
  -- for each follower, whether its draft still lies beside its name
  pub beside : List Bool

-- each list of the state has one element per follower
pub record HasEach (s : State) : Type 0 where
  pub names : length s.names.followers ≡ length s.waiting
  pub synced : length s.synced ≡ length s.waiting
  -- whether each follower is refused
  pub answers : length s.refused ≡ length s.waiting
  -- whether each follower's draft still lies beside its name
  pub drafts : length s.beside ≡ length s.waiting

-- the draft begins empty
abbrev pub beginning : State → State
beginning s = record s { draft = [] }

-- the draft took these bytes too, at its end
abbrev pub drafting : List ℕ → State → State
drafting bytes s = record s { draft = s.draft ++ bytes }

-- the draft has the file's name
abbrev pub placing : State → State
placing s = record s { names = with_file s.draft s.names }

-- the bytes of the draft of the follower at this position; none where there is no such follower
abbrev pub waiting_text : ℕ → State → List ℕ
waiting_text at s = get_or s.waiting at []

-- the follower at this position is reported as refused: it could not be put in place
abbrev pub IsRefused : ℕ → State → Type 0
IsRefused at s = get_or s.refused at false ≡ true

-- the draft of the follower at this position is on disk
abbrev pub IsSynced : ℕ → State → Type 0
IsSynced at s = get_or s.synced at false ≡ true

-- the draft of the follower at this position takes the follower's name
abbrev pub placing_follower : ℕ → State → State
placing_follower at s = record s { names = with_follower at (waiting_text at s) s.names; beside = slice_set s.beside at false }

-- the follower at this position could not be put in place
abbrev pub refusing_follower : ℕ → State → State
refusing_follower at s = record s { refused = slice_set s.refused at true }

-- the draft of the follower at this position was removed
abbrev pub dropping_follower : ℕ → State → State
dropping_follower at s = record s { beside = slice_set s.beside at false }

-- the drafts of all followers were removed
abbrev pub dropping_followers : State → State
dropping_followers s = record s { beside = map (λ _. false) s.beside }

-- no draft lies beside a follower
abbrev pub HasNoneBeside : State → Type 0
HasNoneBeside s = (k : ℕ) → get_or s.beside k false ≡ false
