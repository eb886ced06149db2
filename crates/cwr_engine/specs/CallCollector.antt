-- The transactions of a file that were judged so far, while the file is read.
use Rattle.std.specs.Prelude.{ℕ, ◌≡◌, IsTrue, List, map, Option, Some, None}
use Rattle.cwr_call.specs.Lawful.{is_clean}
use Rattle.cwr_grammar.specs.RawParts.{RawParts}
use Rattle.cwr_rules.specs.Judging.{JudgeState, IsJudging}
use Rattle.cwr_engine.specs.Judged.{JudgedValue, judged_of}

-- exactly these transactions were judged, in order
pub record HasCollected (submitter : List ℕ) (judged : List JudgedValue) (whole : List RawParts) : Type 0 where
  pub clean : IsTrue (is_clean submitter)
  pub judged_are : judged ≡ map (judged_of submitter) whole

-- the transaction that is open has this group ID and sequence, and the judge has the state after its lines so far
pub record IsJudgedAt (group sequence : ℕ) (judge : JudgeState) (t : RawParts) : Type 0 where
  pub group_is : group ≡ t.group
  pub sequence_is : sequence ≡ t.sequence
  pub judging : IsJudging judge t.kind t.lines

-- while no transaction is open, nothing is said of the judge, which has the state of the last one
abbrev pub IsOpenAt : ℕ → ℕ → JudgeState → Option RawParts → Type 0
IsOpenAt group sequence judge None = Unit {0}
IsOpenAt group sequence judge (Some t) = IsJudgedAt group sequence judge t
