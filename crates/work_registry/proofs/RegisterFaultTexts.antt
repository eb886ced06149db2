-- The faults of an entry's line, one after another.
use Rattle.std.proofs.Common.{◌≡◌, ◌∙◌, ℕ, ◌*◌, ◌<◌, List, [], ◌∷◌, ◌++◌, length, take, drop, arith, ap, sym, subst, refl, append_assoc}
use Rattle.std.specs.List.{flat_map, AllByRecursion}
use Rattle.std.proofs.lemmas.List.{append-nil, length-append, take_all, take-append-drop}
use Rattle.std.proofs.lemmas.Grind.{flat_map-append}
use Rattle.cwr_call.specs.declared.transaction_fault.Fault.{Fault}
use Rattle.cwr_field.proofs.lemmas.SameFronts.{same_fronts}
use Rattle.cwr_record.specs.Layout.{StandsFor}
use Rattle.cwr_record.specs.Lines.{IsWhole, line_of}
use Rattle.cwr_record.proofs.lemmas.RoundTrip.{padded_full, stands}
use Rattle.cwr_record.proofs.lemmas.Spelled.{spelled, same_parts, same_number}
use Rattle.cwr_field.specs.Layout.{padded}
use Rattle.cwr_field.specs.Number.{number_text}
use Rattle.cwr_field.proofs.lemmas.DigitText.{length-number_text}
use Rattle.work_registry.specs.RegisterColumns as column
use Rattle.work_registry.specs.RegisterLine.{fault, IsTyped}

abbrev pub faults_text : List Fault → List ℕ
faults_text fs = flat_map (line_of fault) fs

pub length-fault : (f : Fault) → IsTyped f → length (line_of fault f) ≡ column.fault_width
length-fault f typed =
    let type : length (padded 3 f.rtype ++ []) ≡ 3 = ap length (append-nil (padded 3 f.rtype) ∙ padded_full 3 f.rtype typed) ∙ typed in
    let number = length-append (number_text 2 f.number) (padded 3 f.rtype ++ []) in
    let sequence = length-append (number_text 8 f.sequence) (number_text 2 f.number ++ (padded 3 f.rtype ++ [])) in
    omega (arith, type, number, sequence, length-number_text 2 f.number, length-number_text 8 f.sequence)

pub length-faults : (fs : List Fault) → AllByRecursion IsTyped fs → length (faults_text fs) ≡ column.fault_width * length fs
length-faults [] typed = refl
length-faults (f ∷ fs) typed =
    let first = length-fault f typed.0 in
    let more = length-faults fs typed.1 in
    omega (arith, first, more, length-append (line_of fault f) (faults_text fs))

-- thirteen bytes that stand for a fault are its line
pub fault_spelled : (bytes : List ℕ) (f : Fault) → length bytes ≡ column.fault_width → StandsFor fault bytes f → line_of fault f ≡ bytes
fault_spelled bytes f len st = spelled fault bytes f 1 (omega arith) refl refl (omega (arith, len)) st ∙ take_all column.fault_width bytes (omega (arith, len))

pub fault_stands : (bytes : List ℕ) (f : Fault) → IsWhole fault f → line_of fault f ≡ bytes → StandsFor fault bytes f
fault_stands bytes f whole e =
    let P : List ℕ → Type 0 = λ line. StandsFor fault line f in
    subst P e (stands fault f refl whole)

fault_is : (s s' n n' : ℕ) (t t' : List ℕ) → s ≡ s' → n ≡ n' → t ≡ t'
    → let a : Fault = record { sequence = s; number = n; rtype = t } in
    let b : Fault = record { sequence = s'; number = n'; rtype = t' } in a ≡ b
fault_is s s' n n' t t' p q r = rw (p, q, r) refl

pub same_fault : (bytes : List ℕ) (f g : Fault) → StandsFor fault bytes f → StandsFor fault bytes g → f ≡ g
same_fault bytes f g a b =
    let same = same_parts fault bytes f g a b in
    fault_is f.sequence g.sequence f.number g.number f.rtype g.rtype
    (same_number f.sequence g.sequence same.0) (same_number f.number g.number same.1.0) same.1.1.0

-- the faults that stand in the bytes begin with those that were read, and the rest of them with the rest
pub record Continue (bytes rest : List ℕ) (read fs : List Fault) : Type 0 where
  pub more : List Fault
  pub all : fs ≡ read ++ more
  pub text : faults_text more ≡ rest
  pub whole : AllByRecursion (IsWhole fault) more

pub record Read (bytes rest : List ℕ) (read : List Fault) : Type 0 where
  pub typed : AllByRecursion IsTyped read
  pub text : faults_text read ++ rest ≡ bytes
  pub only : (fs : List Fault) → AllByRecursion (IsWhole fault) fs → faults_text fs ≡ bytes → Continue bytes rest read fs

pub read_none : (bytes : List ℕ) (read : List Fault) → read ≡ [] → Read bytes bytes read
read_none bytes read e = rw e (record { typed = tt; text = refl; only = λ fs whole text. record { more = fs; all = refl; text = text; whole = whole } })

typed_push : (fs : List Fault) (f : Fault) → AllByRecursion IsTyped fs → IsTyped f → AllByRecursion IsTyped (fs ++ f ∷ [])
typed_push [] f p q = (q, tt)
typed_push (g ∷ fs) f p q = (p.0, typed_push fs f p.1 q)

-- the first of faults that stand in front of more
first_is : (front back : List ℕ) (g : Fault) (gs : List Fault) → length front ≡ column.fault_width → IsTyped g → faults_text (g ∷ gs) ≡ front ++ back
    → (line_of fault g ≡ front) × (faults_text gs ≡ back)
first_is front back g gs len typed e = same_fronts (line_of fault g) front (faults_text gs) back (length-fault g typed ∙ sym len) e

-- one fault more
pub read_more : (bytes rest front back : List ℕ) (read pushed : List Fault) (f : Fault) → Read bytes rest read → rest ≡ front ++ back → length front ≡ column.fault_width
    → StandsFor fault front f → IsTyped f → pushed ≡ read ++ f ∷ [] → Read bytes back pushed
read_more bytes rest front back read pushed f r split len st typed push =
    let text = fault_spelled front f len st in
    rw push (record {
      typed = typed_push read f r.typed typed;
      text = ap (λ (xs : List ℕ). xs ++ back) (flat_map-append (line_of fault) read (f ∷ []) ∙ ap (λ (xs : List ℕ). faults_text read ++ xs) (append-nil (line_of fault f) ∙ text))
          ∙ append_assoc (faults_text read) front back ∙ ap (λ (xs : List ℕ). faults_text read ++ xs) (sym split) ∙ r.text;
      only = λ fs whole e. next fs (r.only fs whole e);
    })
  where
    goes_on : (fs gs : List Fault) → fs ≡ read ++ gs → faults_text gs ≡ front ++ back → AllByRecursion (IsWhole fault) gs → Continue bytes back (read ++ f ∷ []) fs
    goes_on fs [] all e whole = absurd (let l = ap length e in omega (arith, l, len, length-append front back))
    goes_on fs (g ∷ gs) all e whole =
        let parts = first_is front back g gs len whole.0.1.1.0 e in
        let same = same_fault front g f (fault_stands front g whole.0 parts.0) st in
        record { more = gs; all = all ∙ ap (λ (x : Fault). read ++ x ∷ gs) same ∙ sym (append_assoc read (f ∷ []) gs); text = parts.1; whole = whole.1 }

    next : (fs : List Fault) → Continue bytes rest read fs → Continue bytes back (read ++ f ∷ []) fs
    next fs c = goes_on fs c.more c.all (c.text ∙ split) c.whole

-- all were read
pub read_all : (bytes rest : List ℕ) (read fs : List Fault) → Read bytes rest read → length rest ≡ 0 → AllByRecursion (IsWhole fault) fs → faults_text fs ≡ bytes → read ≡ fs
read_all bytes rest read fs r none whole e = ends (r.only fs whole e)
  where
    ends : Continue bytes rest read fs → read ≡ fs
    ends c = by c.more c.all c.text c.whole
      where
        by : (gs : List Fault) → fs ≡ read ++ gs → faults_text gs ≡ rest → AllByRecursion (IsWhole fault) gs → read ≡ fs
        by [] all text w = sym (append-nil read) ∙ sym all
        by (g ∷ gs) all text w = absurd (let l = ap length text in omega (arith, l, none, length-fault g w.0.1.1.0, length-append (line_of fault g) (faults_text gs)))

pub read_text : (bytes rest : List ℕ) (read : List Fault) → Read bytes rest read → length rest ≡ 0 → faults_text read ≡ bytes
read_text bytes rest read r none = by rest r.text none
  where
    by : (xs : List ℕ) → faults_text read ++ xs ≡ bytes → length xs ≡ 0 → faults_text read ≡ bytes
    by [] e len = sym (append-nil (faults_text read)) ∙ e
    by (x ∷ xs) e len = absurd (omega arith)

-- the rest is too short for a fault, or its first bytes stand for none
pub no_faults : (bytes rest front back : List ℕ) (read fs : List Fault) → Read bytes rest read → rest ≡ front ++ back → 0 < length rest → length front ≡ column.fault_width
    → ((f : Fault) → StandsFor fault front f → ⊥) → AllByRecursion (IsWhole fault) fs → faults_text fs ≡ bytes → ⊥
no_faults bytes rest front back read fs r split some len none whole e = ends (r.only fs whole e)
  where
    by : (gs : List Fault) → faults_text gs ≡ rest → AllByRecursion (IsWhole fault) gs → ⊥
    by [] text w = absurd (let l = ap length text in omega (arith, l, some))
    by (g ∷ gs) text w = none g (fault_stands front g w.0 (first_is front back g gs len w.0.1.1.0 (text ∙ split)).0)

    ends : Continue bytes rest read fs → ⊥
    ends c = by c.more c.text c.whole

pub too_short : (bytes rest : List ℕ) (read fs : List Fault) → Read bytes rest read → 0 < length rest → length rest < column.fault_width
    → AllByRecursion (IsWhole fault) fs → faults_text fs ≡ bytes → ⊥
too_short bytes rest read fs r some short whole e = ends (r.only fs whole e)
  where
    by : (gs : List Fault) → faults_text gs ≡ rest → AllByRecursion (IsWhole fault) gs → ⊥
    by [] text w = absurd (let l = ap length text in omega (arith, l, some))
    by (g ∷ gs) text w = absurd (let l = ap length text in omega (arith, l, short, length-fault g w.0.1.1.0, length-append (line_of fault g) (faults_text gs)))

    ends : Continue bytes rest read fs → ⊥
    ends c = by c.more c.text c.whole

pub split_is : (rest front back : List ℕ) (n : ℕ) → front ≡ take n rest → back ≡ drop n rest → rest ≡ front ++ back
split_is rest front back n p q = rw (p, q) (sym (take-append-drop n rest))
