-- Which faults a transaction has, one by one.
use Rattle.std.specs.Prelude.{ℕ, ◌≡◌, ◌+◌, ◌⊎◌, Bool, true, List, [], ◌∷◌, ◌++◌, length, reverse}
use Rattle.cwr_call.specs.declared.transaction_fault.Fault.{Fault}
use Rattle.cwr_record.specs.declared.works.WorkKind.{WorkKind}
use Rattle.cwr_record.specs.Kinds.{work_kind_code}
use Rattle.cwr_rules.specs.declared.record.Record.{Record}
use Rattle.cwr_rules.specs.Rules.{name_of, publishers}
use Rattle.cwr_rules.specs.Faults.{head_rules, record_rules}

-- the fault is one of the list
abbrev pub IsIn : Fault → List Fault → Type 0
IsIn f [] = ⊥
IsIn f (g ∷ faults) = (f ≡ g) ⊎ IsIn f faults

-- one of these rules holds, and the fault is that rule's, at this record sequence and record type
abbrev pub HoldsIn : ℕ → List ℕ → List (ℕ × Bool) → Fault → Type 0
HoldsIn sequence rtype [] f = ⊥
HoldsIn sequence rtype (rule ∷ rules) f = ((rule.1 ≡ true) × (f ≡ record { sequence = sequence; number = rule.0; rtype = rtype })) ⊎ HoldsIn sequence rtype rules f

-- the fault is that of one of the records, of a rule that holds after the records in front of it
abbrev pub HoldsOfRecord : List (List ℕ) → List Record → Fault → Type 0
HoldsOfRecord parties records f =
    (front : List Record) × (r : Record) × (back : List Record) × (records ≡ front ++ r ∷ back)
    × HoldsIn (length front + 1) (name_of r) (record_rules parties (reverse front) r) f

-- the fault is one of the transaction, of the whole or of a record
abbrev pub Holds : WorkKind → List ℕ → List Record → Fault → Type 0
Holds kind head records f = HoldsIn 0 (work_kind_code kind) (head_rules head records) f ⊎ HoldsOfRecord (publishers records) records f
