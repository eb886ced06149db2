-- Each fault of a transaction is one that a record can have.
use Rattle.std.proofs.Common.{◌≡◌, ℕ, ◌+◌, ◌≤◌, Bool, true, false, leb, List, [], ◌∷◌, ◌++◌, length, Option, Some, None, refl, arith}
use Rattle.std.specs.Prelude.{◌&&◌, is_some, is_none, option_and_then}
use Rattle.std.specs.List.{list_all}
use Rattle.std.specs.Char.{is_ascii_uppercase}
use Rattle.std.proofs.lemmas.Bool.Decides.{nat_tests}
use Rattle.cwr_call.specs.declared.transaction_fault.Fault.{Fault}
use Rattle.cwr_record.specs.declared.works.WorkKind.{WorkKind}
use Rattle.cwr_record.specs.declared.works.WorkKind.TheVariants.{Nwr, Rev}
use Rattle.cwr_record.specs.Kinds.{work_kind_code}
use Rattle.cwr_rules.specs.declared.last_block.LastBlock.{LastBlock}
use Rattle.cwr_rules.specs.declared.record.Record.{Record}
use Rattle.cwr_rules.specs.declared.record.Record.TheVariants.{Spu, Opu, Spt, Swr, Owr, Swt, Pwr, Alt, Xrf, Carried}
use Rattle.cwr_call.specs.Lawful.{is_fault}
use Rattle.cwr_field.proofs.lemmas.Tests.{both, parts}
use Rattle.cwr_field.specs.Number.{max_count}
use Rattle.cwr_rules.specs.LastBlock.{last_block}
use Rattle.cwr_rules.specs.Rules.{name_of, publishers}
use Rattle.cwr_rules.specs.Faults.{found, all_found, record_rules, head_rules, faults_after, faults_of}

pub le_test : (a b : ℕ) → a ≤ b → leb a b ≡ true
le_test a b h = grind (arith, nat_tests)

append_all : (xs ys : List Fault) → list_all is_fault xs ≡ true → list_all is_fault ys ≡ true → list_all is_fault (xs ++ ys) ≡ true
append_all [] ys h k = k
append_all (x ∷ xs) ys h k = let p = parts (is_fault x) (list_all is_fault xs) h in both (is_fault x) (list_all is_fault (xs ++ ys)) p.0 (append_all xs ys p.1 k)

-- the numbers of a table are those of rules
abbrev are_numbers : List (ℕ × Bool) → Bool
are_numbers [] = true
are_numbers (rule ∷ rules) = (leb 1 rule.0 && leb rule.0 15) && are_numbers rules

found_is : (k n : ℕ) (t : List ℕ) (holds : Bool) → k ≤ max_count → (leb 1 n && leb n 15) ≡ true → list_all is_ascii_uppercase t ≡ true → list_all is_fault (found k t n holds) ≡ true
found_is k n t false le in_range capitals = refl
found_is k n t true le in_range capitals =
    both (leb k max_count && (leb 1 n && leb n 15) && list_all is_ascii_uppercase t) true (both (leb k max_count && (leb 1 n && leb n 15)) (list_all is_ascii_uppercase t) (both (leb k max_count) (leb 1 n && leb n 15) (le_test k max_count le) in_range) capitals) refl

table_is : (k : ℕ) (t : List ℕ) (rules : List (ℕ × Bool)) → k ≤ max_count → are_numbers rules ≡ true → list_all is_ascii_uppercase t ≡ true → list_all is_fault (all_found k t rules) ≡ true
table_is k t [] le numbers capitals = refl
table_is k t (rule ∷ rules) le numbers capitals =
    let p = parts (leb 1 rule.0 && leb rule.0 15) (are_numbers rules) numbers in
    append_all (found k t rule.0 rule.1) (all_found k t rules) (found_is k rule.0 t rule.1 le p.0 capitals) (table_is k t rules le p.1 capitals)

-- no rule holds of a record that is carried along
order_stays : (o : Option LastBlock) → (is_some o && is_none (option_and_then (λ place. Some place) o)) ≡ false
order_stays None = refl
order_stays (Some p) = refl

carried_is : (k : ℕ) (parties : List (List ℕ)) (before : List Record) (name : List ℕ) → list_all is_fault (all_found k name (record_rules parties before (Carried name))) ≡ true
carried_is k parties before name = rw (order_stays (last_block before)) refl

record_is : (k : ℕ) (parties : List (List ℕ)) (before : List Record) (r : Record) → k ≤ max_count → list_all is_fault (all_found k (name_of r) (record_rules parties before r)) ≡ true
record_is k parties before (Spu p s) le = table_is k (name_of (Spu p s)) (record_rules parties before (Spu p s)) le refl refl
record_is k parties before (Opu p s) le = table_is k (name_of (Opu p s)) (record_rules parties before (Opu p s)) le refl refl
record_is k parties before (Spt p s t) le = table_is k (name_of (Spt p s t)) (record_rules parties before (Spt p s t)) le refl refl
record_is k parties before (Swr p s) le = table_is k (name_of (Swr p s)) (record_rules parties before (Swr p s)) le refl refl
record_is k parties before (Owr s) le = table_is k (name_of (Owr s)) (record_rules parties before (Owr s)) le refl refl
record_is k parties before (Swt p s t) le = table_is k (name_of (Swt p s t)) (record_rules parties before (Swt p s t)) le refl refl
record_is k parties before (Pwr p) le = table_is k (name_of (Pwr p)) (record_rules parties before (Pwr p)) le refl refl
record_is k parties before Alt le = table_is k (name_of Alt) (record_rules parties before Alt) le refl refl
record_is k parties before Xrf le = table_is k (name_of Xrf) (record_rules parties before Xrf) le refl refl
record_is k parties before (Carried name) le = carried_is k parties before name

records_are : (parties : List (List ℕ)) (before rest : List Record) → length before + length rest ≤ max_count → list_all is_fault (faults_after parties before rest) ≡ true
records_are parties before [] le = refl
records_are parties before (r ∷ rest) le =
    append_all (all_found (length before + 1) (name_of r) (record_rules parties before r)) (faults_after parties (r ∷ before) rest)
    (record_is (length before + 1) parties before r (omega arith)) (records_are parties (r ∷ before) rest (omega arith))

kind_is : (kind : WorkKind) (rules : List (ℕ × Bool)) → are_numbers rules ≡ true → list_all is_fault (all_found 0 (work_kind_code kind) rules) ≡ true
kind_is Nwr rules numbers = table_is 0 (work_kind_code Nwr) rules (omega arith) numbers refl
kind_is Rev rules numbers = table_is 0 (work_kind_code Rev) rules (omega arith) numbers refl

pub faults_are : (kind : WorkKind) (head : List ℕ) (records : List Record) → length records ≤ max_count → list_all is_fault (faults_of kind head records) ≡ true
faults_are kind head records lt =
    append_all (all_found 0 (work_kind_code kind) (head_rules head records)) (faults_after (publishers records) [] records)
    (kind_is kind (head_rules head records) refl) (records_are (publishers records) [] records (omega arith))
