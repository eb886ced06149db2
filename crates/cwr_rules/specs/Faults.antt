-- The faults of a transaction: every rule that holds, at each place where it holds, in rising order.
use Rattle.std.specs.Prelude.{ℕ, ◌+◌, Bool, List, [], ◌∷◌, ◌++◌, length, if◌then◌else◌}
use Rattle.std.specs.List.{flat_map}
use Rattle.cwr_call.specs.declared.transaction_fault.Fault.{Fault}
use Rattle.cwr_record.specs.declared.works.WorkKind.{WorkKind}
use Rattle.cwr_record.specs.Kinds.{work_kind_code}
use Rattle.cwr_rules.specs.declared.record.Record.{Record}
use Rattle.cwr_rules.specs.Totals.{ownership, is_over_somewhere}
use Rattle.cwr_rules.specs.Rules.{name_of, publishers, is_out_of_order, has_wrong_share, is_nameless, is_of_another_party, has_unknown_publisher, has_wrong_territory}
use Rattle.cwr_rules.specs.Head.{has_no_title, has_no_number, has_wrong_iswc, has_wrong_date, has_no_writer, is_off}

-- the rules of a transaction as a whole: each with its number and whether it holds
abbrev pub head_rules : List ℕ → List Record → List (ℕ × Bool)
head_rules head records =
    (2, has_no_title head)
    ∷ (3, has_no_number head)
    ∷ (4, has_wrong_iswc head)
    ∷ (5, has_wrong_date head)
    ∷ (10, has_no_writer records)
    ∷ (11, is_off (ownership records).performing)
    ∷ (12, is_off (ownership records).mechanical)
    ∷ (13, is_off (ownership records).synchronization)
    ∷ (15, is_over_somewhere records)
    ∷ []

-- the rules of a record, given the transaction's publishers and the records before it, the newest first: each with its
-- number and whether it holds
abbrev pub record_rules : List (List ℕ) → List Record → Record → List (ℕ × Bool)
record_rules parties before r =
    (1, is_out_of_order before r)
    ∷ (6, has_wrong_share r)
    ∷ (7, is_nameless r)
    ∷ (8, is_of_another_party before r)
    ∷ (9, has_unknown_publisher parties before r)
    ∷ (14, has_wrong_territory r)
    ∷ []

-- a fault at this record sequence and record type where the rule holds, and nothing where it does not
abbrev pub found : ℕ → List ℕ → ℕ → Bool → List Fault
found sequence rtype number holds = if holds then record { sequence = sequence; number = number; rtype = rtype } ∷ [] else []

-- a fault for each rule that holds, in the order of the rules
abbrev pub all_found : ℕ → List ℕ → List (ℕ × Bool) → List Fault
all_found sequence rtype rules = flat_map (λ rule. found sequence rtype rule.0 rule.1) rules

-- the faults of these records, which come after the records before, the newest first; record 1 is the first after the
-- header
abbrev pub faults_after : List (List ℕ) → List Record → List Record → List Fault
faults_after parties before [] = []
faults_after parties before (r ∷ rest) =
    all_found (length before + 1) (name_of r) (record_rules parties before r) ++ faults_after parties (r ∷ before) rest

-- all faults of a transaction in rising order: those of the whole at sequence 0, then those of each record at its own
abbrev pub faults_of : WorkKind → List ℕ → List Record → List Fault
faults_of kind head records =
    all_found 0 (work_kind_code kind) (head_rules head records) ++ faults_after (publishers records) [] records
