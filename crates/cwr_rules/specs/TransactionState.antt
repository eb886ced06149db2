-- What is kept of the records of a transaction while they are read, as a function of the records so far.
use Rattle.std.specs.Prelude.{ℕ, ◌≡◌, ◌+◌, ◌<◌, Bool, true, not, List, [], ◌∷◌, ◌++◌, length, Option, Some, None, if◌then◌else◌}
use Rattle.std.specs.List.{flat_map, list_any}
use Rattle.cwr_call.specs.declared.transaction_fault.Fault.{Fault}
use Rattle.cwr_field.specs.Number.{max_count}
use Rattle.cwr_rules.specs.declared.record.Record.{Record}
use Rattle.cwr_rules.specs.declared.record.Record.TheVariants.{Pwr}
use Rattle.cwr_rules.specs.declared.finding.Finding.{Finding}
use Rattle.cwr_rules.specs.declared.position.Position.{Position}
use Rattle.cwr_rules.specs.declared.transaction_state.TransactionState.{TransactionState}
use Rattle.cwr_rules.specs.Collected.{AreSmall, AreSmallSums, found_by, value_at}
use Rattle.cwr_rules.specs.Rules.{name_of, publishers, is_party_of, is_out_of_order, has_wrong_share, is_nameless, is_of_another_party, has_unknown_publisher, has_wrong_territory}
use Rattle.cwr_rules.specs.Faults.{faults_after}
use Rattle.cwr_rules.specs.Position.{position_of}
use Rattle.cwr_rules.specs.Summary.{SummaryValue, IsSummary, value_of_summary}

-- the publisher that a PWR names; `None` where its number is blank, and for any other record
abbrev pub link_publisher : Record → Option (List ℕ)
link_publisher (Pwr publisher) = publisher
link_publisher _ = None

-- The rules of a record, given the records before it, the newest first: each with its number, whether it holds so far,
-- and the party that takes the fault away where a later publisher has it (J9).
abbrev pub rules_so_far : List Record → Record → List (ℕ × Bool × Option (List ℕ))
rules_so_far before r =
    (1, is_out_of_order before r, None)
    ∷ (6, has_wrong_share r, None)
    ∷ (7, is_nameless r, None)
    ∷ (8, is_of_another_party before r, None)
    ∷ (9, has_unknown_publisher (publishers before) before r, link_publisher r)
    ∷ (14, has_wrong_territory r, None)
    ∷ []

-- one of the rules holds
abbrev pub some_holds : List (ℕ × Bool × Option (List ℕ)) → Bool
some_holds rules = list_any (λ rule. rule.1) rules

-- a fault with the party that may take it away, where the rule holds, and nothing where it does not
abbrev pub finding : ℕ → List ℕ → ℕ → Bool → Option (List ℕ) → List Finding
finding sequence rtype number holds unless =
    if holds then record { fault = record { sequence = sequence; number = number; rtype = rtype }; unless = unless } ∷ [] else []

-- a finding for each rule that holds, in the order of the rules
abbrev pub all_findings : ℕ → List ℕ → List (ℕ × Bool × Option (List ℕ)) → List Finding
all_findings sequence rtype rules = flat_map (λ rule. finding sequence rtype rule.0 rule.1 rule.2) rules

-- the findings of the records so far; these stand the newest first, and the findings the oldest first
abbrev pub findings_of : List Record → List Finding
findings_of [] = []
findings_of (r ∷ before) = findings_of before ++ all_findings (length before + 1) (name_of r) (rules_so_far before r)

-- the fault stands: no publisher of the list has the party that would take it away
abbrev pub stands : List (List ℕ) → Option (List ℕ) → Bool
stands parties None = true
stands parties (Some party) = not (is_party_of parties party)

-- the faults that stand among findings, given the parties of the transaction's publishers
abbrev pub standing : List (List ℕ) → List Finding → List Fault
standing parties [] = []
standing parties (f ∷ findings) = (if stands parties f.unless then f.fault ∷ [] else []) ++ standing parties findings

-- what is kept of the records of a transaction, independently of how it is stored
pub record StateValue : Type 0 where
  -- the number of records
  pub count : ℕ
  -- where the order stands, the last parties, and whether the last writer is an SWR
  pub position : Position
  -- the sums, the publishers' parties and the collection totals
  pub summary : SummaryValue
  -- the faults of the records, in rising order; a later publisher may take some of J9 away
  pub findings : List Finding

-- what is kept after the records so far, the newest first: their number, their place in the order, their sums and
-- findings
pub record IsAfterRecords (value : StateValue) (before : List Record) : Type 0 where
  pub counted : value.count ≡ length before
  pub position_is : value.position ≡ position_of before
  pub summary : IsSummary value.summary before
  pub findings_are : value.findings ≡ findings_of before

-- what is kept after all records of a transaction, which stand in file order, and which faults the findings come to
pub record IsAfterAll (value : StateValue) (records : List Record) : Type 0 where
  pub summary : IsSummary value.summary records
  -- with the publishers of the whole transaction, the findings come to its faults
  pub faults_are : standing (publishers records) value.findings ≡ faults_after (publishers records) [] records

-- what a stored state stands for
abbrev pub value_of_state : {A : Type 0} → TransactionState A → StateValue
value_of_state s = record { count = s.count; position = s.position; summary = value_of_summary s.summary; findings = s.findings.items }

-- the state that is stored is that after these records, the newest first
abbrev pub IsStateAfter : {A : Type 0} → TransactionState A → List Record → Type 0
IsStateAfter s before = IsAfterRecords (value_of_state s) before

-- the state that is stored is that after all records of the transaction, in file order
abbrev pub IsKeptWhole : {A : Type 0} → TransactionState A → List Record → Type 0
IsKeptWhole s records = IsAfterAll (value_of_state s) records

-- one record more can be counted, and its shares can be added
pub record HasRoom {A : Type 0} (s : TransactionState A) : Type 0 where
  pub few : s.count < max_count
  pub sums : AreSmallSums s.summary.sums
  pub collected : (q : ℕ) → AreSmall (value_at (found_by s.summary.collected) q)
