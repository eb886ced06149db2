-- What is kept of the records of a transaction as a whole.
use Rattle.std.specs.Prelude.{ℕ, ◌≡◌, Bool, List, Option}
use Rattle.cwr_rules.specs.declared.record.Record.{Record}
use Rattle.cwr_rules.specs.declared.totals.Totals.{Totals}
use Rattle.cwr_rules.specs.declared.summary.Summary.{Summary}
use Rattle.cwr_rules.specs.declared.sums.Sums.{Sums}
use Rattle.cwr_rules.specs.Rules.{publishers}
use Rattle.cwr_rules.specs.Collected.{sums_of, found_by, IsCollected}
use Rattle.cwr_rules.specs.Parties.{HoldsParties, kept_by}

-- what is kept of the records of a transaction as a whole, independently of how it is stored
pub record SummaryValue : Type 0 where
  -- the ownership and the control, and whether there is a writer
  pub sums : Sums
  -- whether a party, given by its key, is one of the publishers'
  pub parties : ℕ × ℕ → Bool
  -- the collection totals for a TIS code; `None` where there are none
  pub totals : ℕ → Option Totals
  -- whether the collection totals of some territory are above 100.06 per cent
  pub is_over : Bool

-- the sums, the publishers' parties and the collection totals are those of the records
pub record IsSummary (value : SummaryValue) (records : List Record) : Type 0 where
  pub sums_are : value.sums ≡ sums_of records
  -- the parties of SPU and OPU
  pub holds : HoldsParties value.parties (publishers records)
  -- the totals by TIS code
  pub collected : IsCollected value.totals value.is_over records

-- what a stored summary stands for
abbrev pub value_of_summary : {A : Type 0} → Summary A → SummaryValue
value_of_summary s = record { sums = s.sums; parties = kept_by s.parties; totals = found_by s.collected; is_over = s.collected.is_over }

-- what is stored are the sums, parties and totals of the records
abbrev pub IsKeptSummary : {A : Type 0} → Summary A → List Record → Type 0
IsKeptSummary s records = IsSummary (value_of_summary s) records
