-- What a finding says of its record: the line in the file, and at least one field where the rule is one of fields.
use Rattle.std.specs.Prelude.{ℕ, ◌≡◌, ◌<◌, ◌-◌, Bool, not, ◌||◌, ◌==◌, List, length, Option, is_some}
use Rattle.std.specs.List.{list_any}
use Rattle.cwr_call.specs.declared.transaction_fault.Fault.{Fault}
use Rattle.cwr_grammar.specs.RawParts.{RawParts}
use Rattle.cwr_report.specs.declared.finding.Spot.{Spot}
use Rattle.cwr_report.specs.Walks.{line_at}

-- the record that the fault is of stands in the line of the text with this number, from 1
pub record IsLineOf (text : List (List ℕ)) (t : RawParts) (fault : Fault) (line : ℕ) : Type 0 where
  pub inside : fault.sequence < length t.lines
  -- the line of the file is the record's line in the transaction
  pub stands : line_at text (line - 1) ≡ line_at t.lines fault.sequence

-- at least one field is named
abbrev pub has_a_field : List (Option Spot) → Bool
has_a_field fields = list_any (λ spot. is_some spot) fields

-- the rule J with this number is one of fields of a record: all but J10 to J13, and J15
abbrev pub names_a_field : ℕ → Bool
names_a_field number = not ((number == 10) || (number == 11) || (number == 12) || (number == 13) || (number == 15))
