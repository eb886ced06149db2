-- The faults of a transaction rise strictly.
use Rattle.std.proofs.Common.{◌≡◌, ℕ, ◌+◌, Bool, true, false, ltb, List, [], ◌∷◌, ◌++◌, length, refl, sym, subst, arith, append_assoc}
use Rattle.std.specs.Prelude.{◌&&◌}
use Rattle.std.proofs.lemmas.Bool.Decides.{nat_tests}
use Rattle.cwr_call.specs.declared.transaction_fault.Fault.{Fault}
use Rattle.cwr_rules.specs.declared.record.Record.{Record}
use Rattle.cwr_call.specs.Lawful.{is_before, rises_from, rises}
use Rattle.cwr_record.specs.declared.works.WorkKind.{WorkKind}
use Rattle.cwr_record.specs.Kinds.{work_kind_code}
use Rattle.cwr_rules.specs.Rules.{name_of, publishers}
use Rattle.cwr_rules.specs.Faults.{found, all_found, record_rules, faults_after, faults_of, head_rules}
use Rattle.cwr_field.proofs.lemmas.Tests.{both, parts}

abbrev fault : ℕ → ℕ → List ℕ → Fault
fault sequence number rtype = record { sequence = sequence; number = number; rtype = rtype }

-- the first fault comes after the pair
abbrev starts_after : ℕ → ℕ → List Fault → Bool
starts_after s n [] = true
starts_after s n (f ∷ faults) = is_before (fault s n []) f

-- the faults rise, from after the pair on
record RisesAfter (s n : ℕ) (faults : List Fault) : Type 0 where
  pub begins : starts_after s n faults ≡ true
  pub goes_on : rises faults ≡ true

chained : (s n : ℕ) (t : List ℕ) (faults : List Fault) → RisesAfter s n faults → rises_from (fault s n t) faults ≡ true
chained s n t [] h = refl
chained s n t (f ∷ faults) h = both (is_before (fault s n []) f) (rises_from f faults) h.begins h.goes_on

weaker : (s n s' n' : ℕ) (f : Fault) → is_before (fault s' n' []) (fault s n []) ≡ true → is_before (fault s n []) f ≡ true → is_before (fault s' n' []) f ≡ true
weaker s n s' n' f p q = grind (arith, nat_tests)

weaken : (s n s' n' : ℕ) (faults : List Fault) → is_before (fault s' n' []) (fault s n []) ≡ true → RisesAfter s n faults → RisesAfter s' n' faults
weaken s n s' n' [] p h = record { begins = refl; goes_on = refl }
weaken s n s' n' (f ∷ faults) p h = record { begins = weaker s n s' n' f p h.begins; goes_on = h.goes_on }

found_more : (s n k number : ℕ) (t : List ℕ) (holds : Bool) (rest : List Fault) → is_before (fault s n []) (fault k number []) ≡ true
    → RisesAfter k number rest → RisesAfter s n (found k t number holds ++ rest)
found_more s n k number t true rest p h = record { begins = p; goes_on = chained k number t rest h }
found_more s n k number t false rest p h = weaken k number s n rest p h

-- the numbers rise, from after n on
abbrev numbers_rise : ℕ → List (ℕ × Bool) → Bool
numbers_rise n [] = ltb n 16
numbers_rise n (rule ∷ rules) = ltb n rule.0 && numbers_rise rule.0 rules

last_number : (k n : ℕ) (rest : List Fault) → ltb n 16 ≡ true → RisesAfter k 16 rest → RisesAfter k n rest
last_number k n rest lt h = weaken k 16 k n rest (grind (arith, nat_tests)) h

same_sequence : (k n m : ℕ) → ltb n m ≡ true → is_before (fault k n []) (fault k m []) ≡ true
same_sequence k n m lt = grind (arith, nat_tests)

table : (k n : ℕ) (t : List ℕ) (rules : List (ℕ × Bool)) (rest : List Fault) → numbers_rise n rules ≡ true → RisesAfter k 16 rest → RisesAfter k n (all_found k t rules ++ rest)
table k n t [] rest e h = last_number k n rest e h
table k n t (rule ∷ rules) rest e h =
    let both = parts (ltb n rule.0) (numbers_rise rule.0 rules) e in
    let more = table k rule.0 t rules rest both.1 h in
    let P : List Fault → Type 0 = λ faults. RisesAfter k n faults in
    subst P (sym (append_assoc (found k t rule.0 rule.1) (all_found k t rules) rest)) (found_more k n k rule.0 t rule.1 (all_found k t rules ++ rest) (same_sequence k n rule.0 both.0) more)

next_sequence : (k : ℕ) → is_before (fault k 16 []) (fault (k + 1) 0 []) ≡ true
next_sequence k = grind (arith, nat_tests)

records_rise : (parties : List (List ℕ)) (before rest : List Record) → RisesAfter (length before) 16 (faults_after parties before rest)
records_rise parties before [] = record { begins = refl; goes_on = refl }
records_rise parties before (r ∷ rest) =
    let k = length before + 1 in
    let more : RisesAfter k 16 (faults_after parties (r ∷ before) rest) = at_length (records_rise parties (r ∷ before) rest) in
    weaken k 0 (length before) 16 (all_found k (name_of r) (record_rules parties before r) ++ faults_after parties (r ∷ before) rest) (next_sequence (length before)) (table k 0 (name_of r) (record_rules parties before r) (faults_after parties (r ∷ before) rest) refl more)
  where
    at_length : RisesAfter (length (r ∷ before)) 16 (faults_after parties (r ∷ before) rest) → RisesAfter (length before + 1) 16 (faults_after parties (r ∷ before) rest)
    at_length h = let e : length (r ∷ before) ≡ length before + 1 = omega arith in let P : ℕ → Type 0 = λ k. RisesAfter k 16 (faults_after parties (r ∷ before) rest) in subst P e h

pub faults_rise : (kind : WorkKind) (head : List ℕ) (records : List Record) → rises (faults_of kind head records) ≡ true
faults_rise kind head records = (table 0 0 (work_kind_code kind) (head_rules head records) (faults_after (publishers records) [] records) refl (records_rise (publishers records) [] records)).goes_on
