-- The findings of one pass come to the faults.
use Rattle.std.proofs.Common.{◌≡◌, ℕ, ◌+◌, ◌<◌, ◌≤◌, Bool, true, false, not, List, [], ◌∷◌, ◌++◌, length, get_or, drop, Option, Some, None, refl, sym, ap, ◌∙◌, append_assoc, append-nil}
use Rattle.std.specs.Prelude.{◌&&◌, if◌then◌else◌}
use Rattle.std.specs.List.{cons_option}
use Rattle.std.proofs.lemmas.List.{drop_more, drop_all}
use Rattle.cwr_field.proofs.lemmas.Tests.{neither, or_right}
use Rattle.cwr_call.specs.declared.transaction_fault.Fault.{Fault}
use Rattle.cwr_rules.specs.declared.finding.Finding.{Finding}
use Rattle.cwr_rules.specs.declared.record.Record.{Record}
use Rattle.cwr_rules.specs.declared.record.Record.TheVariants.{Pwr}
use Rattle.cwr_rules.specs.Rules.{publisher_party, publishers, is_party_of, name_of, follows_swr, has_unknown_publisher, is_out_of_order, has_wrong_share, is_nameless, is_of_another_party, has_wrong_territory}
use Rattle.cwr_rules.specs.Faults.{found, all_found, record_rules, faults_after}
use Rattle.cwr_rules.specs.TransactionState.{link_publisher, rules_so_far, some_holds, finding, all_findings, findings_of, stands, standing}
use Rattle.cwr_rules.proofs.Turned.{turned, same_parties, party_more}

-- what is one of the first parties is one of the second
pub record AreAmong (few parties : List (List ℕ)) : Type 0 where
  pub are : (q : List ℕ) → is_party_of few q ≡ true → is_party_of parties q ≡ true

standing_append : (parties : List (List ℕ)) (xs ys : List Finding) → standing parties (xs ++ ys) ≡ standing parties xs ++ standing parties ys
standing_append parties [] ys = refl
standing_append parties (x ∷ xs) ys =
    let one : List Fault = if stands parties x.unless then x.fault ∷ [] else [] in
    ap (λ (fs : List Fault). one ++ fs) (standing_append parties xs ys) ∙ sym (append_assoc one (standing parties xs) (standing parties ys))

joined : (parties : List (List ℕ)) (xs ys : List Finding) (us vs : List Fault) → standing parties xs ≡ us → standing parties ys ≡ vs → standing parties (xs ++ ys) ≡ us ++ vs
joined parties xs ys us vs e f = standing_append parties xs ys ∙ ap (λ (fs : List Fault). fs ++ standing parties ys) e ∙ ap (λ (fs : List Fault). us ++ fs) f

-- a rule that no later publisher takes away
certain : (parties : List (List ℕ)) (k : ℕ) (t : List ℕ) (n : ℕ) (holds : Bool) → standing parties (finding k t n holds None) ≡ found k t n holds
certain parties k t n true = refl
certain parties k t n false = refl

-- a party that is known so far is known in the end
lifted : (parties few : List (List ℕ)) (k : ℕ) (t : List ℕ) (n : ℕ) (p : List ℕ) (follows known : Bool) → is_party_of few p ≡ known → (known ≡ true → is_party_of parties p ≡ true)
    → standing parties (finding k t n (follows && not known) (Some p)) ≡ found k t n (follows && not (is_party_of parties p))
lifted parties few k t n p false known e h = refl
lifted parties few k t n p true true e h = rw (h refl) refl
lifted parties few k t n p true false e h = append-nil (if not (is_party_of parties p) then (record { sequence = k; number = n; rtype = t }) ∷ [] else [])

nobody : (k : ℕ) (t : List ℕ) (parties : List (List ℕ)) (follows : Bool) → standing parties (finding k t 9 (follows && false) None) ≡ found k t 9 (follows && false)
nobody k t parties true = refl
nobody k t parties false = refl

unknown_comes : (parties : List (List ℕ)) (before : List Record) (k : ℕ) (t : List ℕ) (r : Record) → AreAmong (publishers before) parties
    → standing parties (finding k t 9 (has_unknown_publisher (publishers before) before r) (link_publisher r)) ≡ found k t 9 (has_unknown_publisher parties before r)
unknown_comes parties before k t (Pwr None) h = nobody k t parties (follows_swr before)
unknown_comes parties before k t (Pwr (Some p)) h = lifted parties (publishers before) k t 9 p (follows_swr before) (is_party_of (publishers before) p) refl (h.are p)
unknown_comes parties before k t _ h = refl

-- the findings of a record come to its faults
record_comes : (parties : List (List ℕ)) (before : List Record) (k : ℕ) (r : Record) → AreAmong (publishers before) parties
    → standing parties (all_findings k (name_of r) (rules_so_far before r)) ≡ all_found k (name_of r) (record_rules parties before r)
record_comes parties before k r h =
    let t = name_of r in
    joined parties (finding k t 1 (is_out_of_order before r) None) _ _ _ (certain parties k t 1 (is_out_of_order before r))
    (joined parties (finding k t 6 (has_wrong_share r) None) _ _ _ (certain parties k t 6 (has_wrong_share r))
    (joined parties (finding k t 7 (is_nameless r) None) _ _ _ (certain parties k t 7 (is_nameless r))
    (joined parties (finding k t 8 (is_of_another_party before r) None) _ _ _ (certain parties k t 8 (is_of_another_party before r))
    (joined parties (finding k t 9 (has_unknown_publisher (publishers before) before r) (link_publisher r)) _ _ _ (unknown_comes parties before k t r h)
    (joined parties (finding k t 14 (has_wrong_territory r) None) [] _ [] (certain parties k t 14 (has_wrong_territory r)) refl)))))

-- the faults of records, the newest of them first
abbrev pub faults_until : List (List ℕ) → List Record → List Fault
faults_until parties [] = []
faults_until parties (r ∷ before) = faults_until parties before ++ all_found (length before + 1) (name_of r) (record_rules parties before r)

until_turned : (parties : List (List ℕ)) (rest before : List Record) → faults_until parties (turned rest before) ≡ faults_until parties before ++ faults_after parties before rest
until_turned parties [] before = sym (append-nil (faults_until parties before))
until_turned parties (r ∷ rest) before =
    until_turned parties rest (r ∷ before)
    ∙ append_assoc (faults_until parties before) (all_found (length before + 1) (name_of r) (record_rules parties before r)) (faults_after parties (r ∷ before) rest)

fewer : (r : Record) (before : List Record) (parties : List (List ℕ)) → AreAmong (publishers (r ∷ before)) parties → AreAmong (publishers before) parties
fewer r before parties h = record { are = λ q is. h.are q (party_more (publisher_party r) (publishers before) q ∙ or_right (is_party_of (cons_option (publisher_party r) []) q) (is_party_of (publishers before) q) is) }

findings_come : (parties : List (List ℕ)) (before : List Record) → AreAmong (publishers before) parties → standing parties (findings_of before) ≡ faults_until parties before
findings_come parties [] h = refl
findings_come parties (r ∷ before) h =
    let older = fewer r before parties h in
    let here = all_findings (length before + 1) (name_of r) (rules_so_far before r) in
    standing_append parties (findings_of before) here
    ∙ ap (λ (fs : List Fault). fs ++ standing parties here) (findings_come parties before older)
    ∙ ap (λ (fs : List Fault). faults_until parties before ++ fs) (record_comes parties before (length before + 1) r older)

-- of all records, and so with all publishers
pub all_come : (records : List Record) → standing (publishers records) (findings_of (turned records [])) ≡ faults_after (publishers records) [] records
all_come records =
    findings_come (publishers records) (turned records []) (record { are = λ q is. sym (same_parties records q) ∙ is })
    ∙ until_turned (publishers records) records []

-- the fault of one more finding was appended, where it stands
pub one_standing : (parties : List (List ℕ)) (findings : List Finding) (i : ℕ) (d : Finding) (holds : Bool) (old new all : List Fault)
    → i < length findings
    → new ≡ old ++ found (get_or findings i d).fault.sequence (get_or findings i d).fault.rtype (get_or findings i d).fault.number holds
    → holds ≡ stands parties (get_or findings i d).unless
    → old ++ standing parties (drop i findings) ≡ all
    → new ++ standing parties (drop (i + 1) findings) ≡ all
one_standing parties findings i d holds old new all lt grown is so_far =
    let split = drop_more findings i d lt in
    let f = get_or findings i d in
    let one : List Fault = if stands parties f.unless then f.fault ∷ [] else [] in
    let here : standing parties (drop i findings) ≡ one ++ standing parties (drop (i + 1) findings) = rw split refl in
    rw (grown, is) (append_assoc old one (standing parties (drop (i + 1) findings)) ∙ ap (λ (xs : List Fault). old ++ xs) (sym here) ∙ so_far)

pub all_standing : (parties : List (List ℕ)) (findings : List Finding) (i : ℕ) (faults all : List Fault)
    → length findings ≤ i → faults ++ standing parties (drop i findings) ≡ all → faults ≡ all
all_standing parties findings i faults all le so_far =
    sym (append-nil faults) ∙ ap (λ (fs : List Finding). faults ++ standing parties fs) (sym (drop_all i findings le)) ∙ so_far

-- rules none of which holds have no finding
pub none_found : (k : ℕ) (t : List ℕ) (rules : List (ℕ × Bool × Option (List ℕ))) → some_holds rules ≡ false → all_findings k t rules ≡ []
none_found k t [] h = refl
none_found k t (rule ∷ rules) h =
    let two = neither rule.1 (some_holds rules) h in
    ap (λ (b : Bool). finding k t rule.0 b rule.2 ++ all_findings k t rules) two.0 ∙ none_found k t rules two.1
