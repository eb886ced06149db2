-- What a check prints of the transactions of a file so far, while the file is read.
use Rattle.std.specs.Prelude.{ℕ, ◌≡◌, ◌≤◌, ◌<◌, ◌^◌, List, length, Option, Some, None}
use Rattle.std.specs.List.{flat_map}
use Rattle.cwr_grammar.specs.RawParts.{RawParts}
use Rattle.cwr_rules.specs.Judging.{JudgeState, IsJudging}
use Rattle.cwr_check.specs.declared.check_lines.TransactionPlace.{TransactionPlace}
use Rattle.cwr_check.specs.CheckText.{transaction_line, faulty_count}

-- the place is that of the transaction, and its numbers have at most the digits of their fields
pub record IsPlaceOf (place : TransactionPlace) (t : RawParts) : Type 0 where
  pub group_is : place.group ≡ t.group
  pub sequence_is : place.sequence ≡ t.sequence
  pub kind_is : place.kind ≡ t.kind
  pub group_fits : place.group < 10 ^ 5
  pub sequence_fits : place.sequence < 10 ^ 8

-- the text has the lines of these transactions, with the number of these and of those that have faults
pub record IsTold (submitter text : List ℕ) (transactions faulty : ℕ) (whole : List RawParts) : Type 0 where
  pub text_is : text ≡ flat_map (transaction_line submitter) whole
  pub transactions_are : transactions ≡ length whole
  pub faulty_are : faulty ≡ faulty_count submitter whole
  pub few : faulty ≤ transactions

-- the transaction that is open has this place, and the judge has the state after its lines so far
pub record IsJudgedAt (place : TransactionPlace) (judge : JudgeState) (t : RawParts) : Type 0 where
  pub place_is : IsPlaceOf place t
  pub judging : IsJudging judge t.kind t.lines

-- a transaction is open where there is a judge, and it is judged as far as its lines were read
abbrev pub IsOpenAt : TransactionPlace → Option JudgeState → Option RawParts → Type 0
IsOpenAt place None None = Unit {0}
IsOpenAt place None (Some t) = ⊥
IsOpenAt place (Some judge) None = ⊥
IsOpenAt place (Some judge) (Some t) = IsJudgedAt place judge t
