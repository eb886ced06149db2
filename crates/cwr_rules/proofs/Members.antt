-- The faults are all that hold.
use Rattle.std.proofs.Common.{◌≡◌, ℕ, ◌+◌, Bool, true, false, List, [], ◌∷◌, ◌++◌, length, reverse, inl, inr, refl, sym, ap, subst, ◌∙◌, append_assoc, append-nil}
use Rattle.std.specs.Prelude.{◌⊎◌}
use Rattle.std.proofs.lemmas.List.{reverse-append, length-reverse}
use Rattle.cwr_record.specs.declared.works.WorkKind.{WorkKind}
use Rattle.cwr_record.specs.Kinds.{work_kind_code}
use Rattle.cwr_call.specs.declared.transaction_fault.Fault.{Fault}
use Rattle.cwr_rules.specs.declared.record.Record.{Record}
use Rattle.cwr_rules.specs.Rules.{name_of, publishers}
use Rattle.cwr_rules.specs.Faults.{found, all_found, faults_after, record_rules, faults_of, head_rules}
use Rattle.cwr_rules.specs.Holds.{IsIn, HoldsIn, Holds}

either : (A B C : Type 0) → A ⊎ B → (A → C) → (B → C) → C
either A B C (inl a) f g = f a
either A B C (inr b) f g = g b

in_parts : (f : Fault) (xs ys : List Fault) → IsIn f (xs ++ ys) → IsIn f xs ⊎ IsIn f ys
in_parts f [] ys h = inr h
in_parts f (x ∷ xs) ys (inl e) = inl (inl e)
in_parts f (x ∷ xs) ys (inr h) = side (in_parts f xs ys h)
  where
    side : IsIn f xs ⊎ IsIn f ys → ((f ≡ x) ⊎ IsIn f xs) ⊎ IsIn f ys
    side (inl a) = inl (inr a)
    side (inr b) = inr b

in_front : (f : Fault) (xs ys : List Fault) → IsIn f xs → IsIn f (xs ++ ys)
in_front f (x ∷ xs) ys (inl e) = inl e
in_front f (x ∷ xs) ys (inr h) = inr (in_front f xs ys h)
in_front f [] ys h = absurd h

in_back : (f : Fault) (xs ys : List Fault) → IsIn f ys → IsIn f (xs ++ ys)
in_back f [] ys h = h
in_back f (x ∷ xs) ys h = inr (in_back f xs ys h)

abbrev fault : ℕ → ℕ → List ℕ → Fault
fault sequence number rtype = record { sequence = sequence; number = number; rtype = rtype }

found_holds : (f : Fault) (k n : ℕ) (t : List ℕ) (b : Bool) → IsIn f (found k t n b) → (b ≡ true) × (f ≡ fault k n t)
found_holds f k n t true (inl e) = (refl, e)
found_holds f k n t true (inr h) = absurd h
found_holds f k n t false h = absurd h

holds_found : (f : Fault) (k n : ℕ) (t : List ℕ) (b : Bool) → b ≡ true → f ≡ fault k n t → IsIn f (found k t n b)
holds_found f k n t true e same = inl same
holds_found f k n t false e same = absurd cc

table_holds : (f : Fault) (k : ℕ) (t : List ℕ) (rules : List (ℕ × Bool)) → IsIn f (all_found k t rules) → HoldsIn k t rules f
table_holds f k t [] h = h
table_holds f k t (rule ∷ rules) h =
    either (IsIn f (found k t rule.0 rule.1)) (IsIn f (all_found k t rules)) (HoldsIn k t (rule ∷ rules) f) (in_parts f (found k t rule.0 rule.1) (all_found k t rules) h)
    (λ a. inl (found_holds f k rule.0 t rule.1 a)) (λ b. inr (table_holds f k t rules b))

holds_table : (f : Fault) (k : ℕ) (t : List ℕ) (rules : List (ℕ × Bool)) → HoldsIn k t rules f → IsIn f (all_found k t rules)
holds_table f k t [] h = h
holds_table f k t (rule ∷ rules) (inl a) = in_front f (found k t rule.0 rule.1) (all_found k t rules) (holds_found f k rule.0 t rule.1 a.0 a.1)
holds_table f k t (rule ∷ rules) (inr b) = in_back f (found k t rule.0 rule.1) (all_found k t rules) (holds_table f k t rules b)

-- the same from some record on
abbrev HoldsAfter : List (List ℕ) → List Record → List Record → Fault → Type 0
HoldsAfter parties before rest f =
    (front : List Record) × (r : Record) × (back : List Record) × (rest ≡ front ++ r ∷ back)
    × HoldsIn (length (reverse front ++ before) + 1) (name_of r) (record_rules parties (reverse front ++ before) r) f

shift : (front before : List Record) (r : Record) → reverse (r ∷ front) ++ before ≡ reverse front ++ (r ∷ before)
shift front before r = ap (λ (xs : List Record). xs ++ before) (reverse-append (r ∷ []) front) ∙ append_assoc (reverse front) (r ∷ []) before

later : (f : Fault) (parties : List (List ℕ)) (before rest : List Record) (r : Record) → HoldsAfter parties (r ∷ before) rest f → HoldsAfter parties before (r ∷ rest) f
later f parties before rest r more =
    let P : List Record → Type 0 = λ xs. HoldsIn (length xs + 1) (name_of more.1) (record_rules parties xs more.1) f in
    (r ∷ more.0, more.1, more.2, ap (λ (xs : List Record). r ∷ xs) more.3, subst P (sym (shift more.0 before r)) more.4)

after_holds : (f : Fault) (parties : List (List ℕ)) (before rest : List Record) → IsIn f (faults_after parties before rest) → HoldsAfter parties before rest f
after_holds f parties before [] h = absurd h
after_holds f parties before (r ∷ rest) h =
    either (IsIn f (all_found (length before + 1) (name_of r) (record_rules parties before r))) (IsIn f (faults_after parties (r ∷ before) rest)) (HoldsAfter parties before (r ∷ rest) f)
    (in_parts f (all_found (length before + 1) (name_of r) (record_rules parties before r)) (faults_after parties (r ∷ before) rest) h)
    (λ a. ([], r, rest, refl, table_holds f (length before + 1) (name_of r) (record_rules parties before r) a))
    (λ b. later f parties before rest r (after_holds f parties (r ∷ before) rest b))

holds_after : (f : Fault) (parties : List (List ℕ)) (before : List Record) (front : List Record) (r : Record) (back : List Record)
    → HoldsIn (length (reverse front ++ before) + 1) (name_of r) (record_rules parties (reverse front ++ before) r) f → IsIn f (faults_after parties before (front ++ r ∷ back))
holds_after f parties before [] r back h = in_front f (all_found (length before + 1) (name_of r) (record_rules parties before r)) (faults_after parties (r ∷ before) back) (holds_table f (length before + 1) (name_of r) (record_rules parties before r) h)
holds_after f parties before (x ∷ front) r back h =
    let P : List Record → Type 0 = λ xs. HoldsIn (length xs + 1) (name_of r) (record_rules parties xs r) f in
    in_back f (all_found (length before + 1) (name_of x) (record_rules parties before x)) (faults_after parties (x ∷ before) (front ++ r ∷ back)) (holds_after f parties (x ∷ before) front r back (subst P (shift front before x) h))

at_start : (front : List Record) → reverse front ++ [] ≡ reverse front
at_start front = append-nil (reverse front)

pub all_hold : (kind : WorkKind) (head : List ℕ) (records : List Record) (f : Fault) → IsIn f (faults_of kind head records) → Holds kind head records f
all_hold kind head records f h = side (in_parts f (all_found 0 (work_kind_code kind) (head_rules head records)) (faults_after (publishers records) [] records) h)
  where
    side : IsIn f (all_found 0 (work_kind_code kind) (head_rules head records)) ⊎ IsIn f (faults_after (publishers records) [] records) → Holds kind head records f
    side (inl a) = inl (table_holds f 0 (work_kind_code kind) (head_rules head records) a)
    side (inr b) =
        let more = after_holds f (publishers records) [] records b in
        let P : List Record → ℕ → Type 0 = λ xs n. HoldsIn (n + 1) (name_of more.1) (record_rules (publishers records) xs more.1) f in
        let same = at_start more.0 in
        let one : P (reverse more.0) (length (reverse more.0)) = (let Q : List Record → Type 0 = λ xs. P xs (length xs) in subst Q same more.4) in
        let two : P (reverse more.0) (length more.0) = (let Q : ℕ → Type 0 = λ n. P (reverse more.0) n in subst Q (length-reverse more.0) one) in
        inr (more.0, more.1, more.2, more.3, two)

pub all_found_of : (kind : WorkKind) (head : List ℕ) (records : List Record) (f : Fault) → Holds kind head records f → IsIn f (faults_of kind head records)
all_found_of kind head records f (inl a) = in_front f (all_found 0 (work_kind_code kind) (head_rules head records)) (faults_after (publishers records) [] records) (holds_table f 0 (work_kind_code kind) (head_rules head records) a)
all_found_of kind head records f (inr b) =
    let P : List Record → ℕ → Type 0 = λ xs n. HoldsIn (n + 1) (name_of b.1) (record_rules (publishers records) xs b.1) f in
    let one : P (reverse b.0) (length (reverse b.0)) = (let Q : ℕ → Type 0 = λ n. P (reverse b.0) n in subst Q (sym (length-reverse b.0)) b.4) in
    let two : P (reverse b.0 ++ []) (length (reverse b.0 ++ [])) = (let Q : List Record → Type 0 = λ xs. P xs (length xs) in subst Q (sym (at_start b.0)) one) in
    let R : List Record → Type 0 = λ xs. IsIn f (faults_after (publishers records) [] xs) in
    in_back f (all_found 0 (work_kind_code kind) (head_rules head records)) (faults_after (publishers records) [] records) (subst R (sym b.3) (holds_after f (publishers records) [] b.0 b.1 b.2 two))
