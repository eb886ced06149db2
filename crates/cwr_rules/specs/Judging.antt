-- What is kept of a transaction while its lines are read, independently of how it is stored, and which lines lead to
-- it.
use Rattle.std.specs.Prelude.{ℕ, ◌≡◌, Bool, IsTrue, List, ◌∷◌, reverse, Option}
use Rattle.cwr_call.specs.Lawful.{is_clean, is_iswc}
use Rattle.cwr_record.specs.declared.works.WorkKind.{WorkKind}
use Rattle.cwr_rules.specs.declared.finding.Finding.{Finding}
use Rattle.cwr_rules.specs.declared.header.HeaderFields.{HeaderFields}
use Rattle.cwr_rules.specs.declared.position.Position.{Position}
use Rattle.cwr_rules.specs.declared.sums.Sums.{Sums}
use Rattle.cwr_rules.specs.declared.totals.Totals.{Totals}
use Rattle.cwr_rules.specs.Collected.{found_in, found_among}
use Rattle.cwr_rules.specs.HeaderFields.{header_fields}
use Rattle.cwr_rules.specs.Parties.{kept_in}
use Rattle.cwr_rules.specs.Records.{records_of}
use Rattle.cwr_rules.specs.TransactionState.{StateValue, IsAfterRecords}

-- what is kept of a transaction: its header's fields, and what its records so far come to
pub record JudgeState : Type 0 where
  pub header : HeaderFields
  -- the number of records so far, without the header
  pub count : ℕ
  -- what the records so far say about the next one
  pub position : Position
  pub sums : Sums
  -- the first publisher's party, as its key; `None` before there is one
  pub first_party : Option (ℕ × ℕ)
  -- the keys of the other publishers' parties
  pub parties : List (ℕ × ℕ)
  -- the first TIS code that is included, with its collection totals; `None` before there is one
  pub first_code : Option (ℕ × Totals)
  -- the other codes with their totals; `None` where there are none
  pub codes : Option (List (ℕ × Totals))
  -- whether the collection totals of some territory are above 100.06 per cent
  pub is_over : Bool
  -- the faults of the records so far, in rising order; a later publisher may take some of J9 away
  pub findings : List Finding

-- what the state says of the records alone
abbrev pub value_of_judge : JudgeState → StateValue
value_of_judge s = record {
  count = s.count;
  position = s.position;
  summary = record {
    sums = s.sums;
    parties = kept_in s.first_party (record { keys = s.parties });
    totals = found_in s.first_code (found_among s.codes);
    is_over = s.is_over;
  };
  findings = s.findings;
}

-- the state is that after these lines of a transaction, of which the first is the header's
pub record IsJudging (state : JudgeState) (kind : WorkKind) (lines : List (List ℕ)) : Type 0 where
  -- the header's line
  pub head : List ℕ
  -- the lines after it
  pub details : List (List ℕ)
  pub lines_are : lines ≡ head ∷ details
  pub clean : IsTrue (is_clean head)
  pub header_is : state.header ≡ header_fields kind head
  pub nine_digits : IsTrue (is_iswc state.header.iswc)
  -- the rest of the state is that of the records so far
  pub so_far : IsAfterRecords (value_of_judge state) (reverse (records_of details))
