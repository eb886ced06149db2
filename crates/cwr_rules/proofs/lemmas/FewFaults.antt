-- How many faults a transaction can have.
use Rattle.std.proofs.Common.{◌≡◌, ℕ, ◌+◌, ◌*◌, ◌≤◌, Bool, true, false, List, [], ◌∷◌, ◌++◌, length, arith, length-append}
use Rattle.cwr_record.specs.declared.works.WorkKind.{WorkKind}
use Rattle.cwr_record.specs.Kinds.{work_kind_code}
use Rattle.cwr_rules.specs.declared.record.Record.{Record}
use Rattle.cwr_rules.specs.Rules.{name_of, publishers}
use Rattle.cwr_rules.specs.Faults.{found, all_found, record_rules, head_rules, faults_after, faults_of}

found_few : (k n : ℕ) (t : List ℕ) (holds : Bool) → length (found k t n holds) ≤ 1
found_few k n t true = omega arith
found_few k n t false = omega arith

table_few : (k : ℕ) (t : List ℕ) (rules : List (ℕ × Bool)) → length (all_found k t rules) ≤ length rules
table_few k t [] = omega arith
table_few k t (rule ∷ rules) = omega (arith, length-append (found k t rule.0 rule.1) (all_found k t rules), found_few k rule.0 t rule.1, table_few k t rules)

records_few : (parties : List (List ℕ)) (before rest : List Record) → length (faults_after parties before rest) ≤ 6 * length rest
records_few parties before [] = omega arith
records_few parties before (r ∷ rest) =
    let here = all_found (length before + 1) (name_of r) (record_rules parties before r) in
    let later = faults_after parties (r ∷ before) rest in
    let few : length here ≤ 6 = table_few (length before + 1) (name_of r) (record_rules parties before r) in
    let more = records_few parties (r ∷ before) rest in
    let sum : length (here ++ later) ≡ length here + length later = length-append here later in
    omega (arith, few, more, sum)

-- at most nine of the whole, and six of each record
pub faults_few : (kind : WorkKind) (head : List ℕ) (records : List Record) → length (faults_of kind head records) ≤ 9 + 6 * length records
faults_few kind head records =
    let whole = all_found 0 (work_kind_code kind) (head_rules head records) in
    let rest = faults_after (publishers records) [] records in
    let few : length whole ≤ 9 = table_few 0 (work_kind_code kind) (head_rules head records) in
    let more = records_few (publishers records) [] records in
    let sum : length (whole ++ rest) ≡ length whole + length rest = length-append whole rest in
    omega (arith, few, more, sum)
