-- A register that was written is read again: it has no fault, and it is that of no other history.
use Rattle.std.proofs.Common.{◌≡◌, ◌∙◌, ℕ, ◌+◌, leb, Bool, true, false, List, [], ◌∷◌, ◌++◌, length, take, Option, Some, None, arith, ap, sym, refl}
use Rattle.std.specs.Prelude.{slice_index, ◌==◌}
use Rattle.std.specs.List.{list_all, AllByRecursion}
use Rattle.std.specs.Char.{is_ascii_digit, is_ascii_uppercase}
use Rattle.std.proofs.lemmas.Bool.Decides.{nat_tests}
use Rattle.std.proofs.lemmas.List.{length-append}
use Rattle.cwr_field.specs.Number.{number_text}
use Rattle.cwr_field.specs.Iswc.{check_digit}
use Rattle.cwr_field.proofs.lemmas.DigitText.{all_digits}
use Rattle.cwr_record.specs.declared.works.WorkKind.{WorkKind}
use Rattle.cwr_record.specs.declared.works.WorkKind.TheVariants.{Nwr, Rev}
use Rattle.cwr_record.specs.Kinds.{work_kind_code}
use Rattle.cwr_record.specs.Kinds.{status_text}
use Rattle.cwr_record.specs.declared.status.Status.{Status}
use Rattle.cwr_record.specs.declared.status.Status.TheVariants as status
use Rattle.cwr_call.specs.declared.transaction_fault.Fault.{Fault}
use Rattle.cwr_field.proofs.lemmas.SameFronts.{same_fronts}
use Rattle.cwr_field.proofs.lemmas.Printable.{printable-append}
use Rattle.cwr_field.proofs.lemmas.Tests.{both, parts}
use Rattle.cwr_call.specs.Lawful.{is_clean, is_fault, rises}
use Rattle.work_registry.specs.declared.register.head.Head.{Head}
use Rattle.cwr_field.specs.Layout.{padded, min_printable}
use Rattle.cwr_record.specs.Layout.{Part}
use Rattle.cwr_record.specs.Lines.{text_of, code_text, line_of, IsWhole}
use Rattle.cwr_record.proofs.lemmas.Codes.{length-work_kind_code, length-status_text}
use Rattle.cwr_record.proofs.lemmas.RoundTrip.{padded_full}
use Rattle.work_registry.specs.RegisterColumns as column
use Rattle.work_registry.specs.RegisterLine.{entry_count, head, fault, head_of, line_from, EntryLine, IsEntryLine, IsTyped, IsWholeCall}
use Rattle.work_registry.specs.RegisterFaults.{has_end}
use Rattle.work_registry.proofs.RegisterFits.{lawful_parts}
use Rattle.work_registry.proofs.RegisterFaultTexts.{faults_text, length-fault, same_fault, fault_stands}
use Rattle.work_registry.proofs.RegisterEntries.{said, same_head}

-- ---- no LF stands in a line before its end

digit_clean : (b : ℕ) → is_ascii_digit b ≡ true → leb min_printable b ≡ true
digit_clean b h = grind (arith, nat_tests)

capital_clean : (b : ℕ) → is_ascii_uppercase b ≡ true → leb min_printable b ≡ true
capital_clean b h = grind (arith, nat_tests)

each_clean : (p : ℕ → Bool) → ((b : ℕ) → p b ≡ true → leb min_printable b ≡ true) → (xs : List ℕ) → list_all p xs ≡ true → is_clean xs ≡ true
each_clean p f [] h = refl
each_clean p f (x ∷ xs) h = let q = parts (p x) (list_all p xs) h in both (leb min_printable x) (is_clean xs) (f x q.0) (each_clean p f xs q.1)

number_clean : (width n : ℕ) → is_clean (number_text width n) ≡ true
number_clean width n = each_clean is_ascii_digit digit_clean (number_text width n) (all_digits width n)

abbrev AreClean : {X : Type 0} → List (Part X) → X → Type 0
AreClean parts x = AllByRecursion (λ part. is_clean (text_of x part) ≡ true) parts

line_clean : {X : Type 0} (parts : List (Part X)) (x : X) → AreClean parts x → is_clean (line_of parts x) ≡ true
line_clean [] x h = refl
line_clean (part ∷ parts) x h = printable-append (text_of x part) (line_of parts x) h.0 (line_clean parts x h.1)

-- a text that fills its field is written as it is
full_clean : (width : ℕ) (text : List ℕ) → length text ≡ width → is_clean text ≡ true → is_clean (padded width text) ≡ true
full_clean width text len h = ap is_clean (padded_full width text len) ∙ h

kind_clean : (k : WorkKind) → is_clean (work_kind_code k) ≡ true
kind_clean Nwr = refl
kind_clean Rev = refl

status_clean : (s : Status) → is_clean (status_text s) ≡ true
status_clean status.Accepted = refl
status_clean status.Duplicate = refl
status_clean status.Conflict = refl
status_clean status.Rejected = refl

check_clean : (n : ℕ) → leb min_printable (48 + n) ≡ true
check_clean n = grind (arith, nat_tests)

code_clean : (o : Option ℕ) → is_clean (code_text 11 o) ≡ true
code_clean None = refl
code_clean (Some n) = printable-append (84 ∷ number_text 9 n) ((48 + check_digit n) ∷ []) (number_clean 9 n) (both (leb min_printable (48 + check_digit n)) true (check_clean (check_digit n)) refl)

fault_clean : (f : Fault) → length f.rtype ≡ 3 → is_fault f ≡ true → is_clean (line_of fault f) ≡ true
fault_clean f typed h =
    let type = each_clean is_ascii_uppercase capital_clean f.rtype (parts _ (list_all is_ascii_uppercase f.rtype) h).1 in
    line_clean fault f (number_clean 8 f.sequence, (number_clean 2 f.number, (full_clean 3 f.rtype typed type, tt)))

faults_clean : (fs : List Fault) → AllByRecursion IsTyped fs → list_all is_fault fs ≡ true → is_clean (faults_text fs) ≡ true
faults_clean [] typed h = refl
faults_clean (f ∷ fs) typed h =
    let p = parts (is_fault f) (list_all is_fault fs) h in
    printable-append (line_of fault f) (faults_text fs) (fault_clean f typed.0 p.0) (faults_clean fs typed.1 p.1)

clean_has_none : (xs : List ℕ) → is_clean xs ≡ true → has_end xs ≡ false
clean_has_none [] h = refl
clean_has_none (x ∷ xs) h =
    let p = parts (leb min_printable x) (is_clean xs) h in
    let first : (x == 10) ≡ false = (let q = p.0 in grind (arith, nat_tests)) in
    rw first (clean_has_none xs p.1)

pub number_has_none : (n : ℕ) → has_end (line_of entry_count n) ≡ false
number_has_none n = clean_has_none (line_of entry_count n) (line_clean entry_count n (refl, (number_clean 8 n, tt)))

-- the line of an entry, less its LF
abbrev pub front_of : EntryLine → List ℕ
front_of x = line_of head (head_of x) ++ faults_text x.call.faults

pub front_has_none : (x : EntryLine) → IsWholeCall x.call → has_end (front_of x) ≡ false
front_has_none x whole =
    let p = lawful_parts x.call whole.lawful in
    let faults = (parts _ (list_all is_fault x.call.faults) (parts _ (rises x.call.faults) p.faults).0).1 in
    clean_has_none (front_of x) (printable-append (line_of head (head_of x)) (faults_text x.call.faults)
    (line_clean head (head_of x) (
      refl,
      (
        number_clean 8 x.index,
        (
          full_clean column.submitter.width x.call.submitter whole.submitter p.submitter,
          (
            full_clean 3 (work_kind_code x.call.kind) (length-work_kind_code x.call.kind) (kind_clean x.call.kind),
            (
              full_clean column.title.width x.call.title whole.title p.title,
              (
                full_clean column.number.width x.call.number whole.number p.number,
                (
                  code_clean x.call.iswc,
                  (number_clean 12 (slice_index x.call.control 0), (number_clean 12 (slice_index x.call.control 1), (number_clean 12 (slice_index x.call.control 2), (full_clean 2 (status_text x.status) (length-status_text x.status) (status_clean x.status), (number_clean 8 x.work, (number_clean 8 x.version, (number_clean 9 (length x.call.faults), tt))))))),
                ),
              ),
            ),
          ),
        ),
      ),
    ))
    (faults_clean x.call.faults whole.types faults))

-- ---- one line, one reading

same_faults : (fs gs : List Fault) → AllByRecursion (IsWhole fault) fs → AllByRecursion (IsWhole fault) gs → faults_text fs ≡ faults_text gs → fs ≡ gs
same_faults [] [] p q e = refl
same_faults [] (g ∷ gs) p q e = absurd (let l = ap length e in omega (arith, l, length-fault g q.0.1.1.0, length-append (line_of fault g) (faults_text gs)))
same_faults (f ∷ fs) [] p q e = absurd (let l = ap length e in omega (arith, l, length-fault f p.0.1.1.0, length-append (line_of fault f) (faults_text fs)))
same_faults (f ∷ fs) (g ∷ gs) p q e =
    let split = same_fronts (line_of fault f) (line_of fault g) (faults_text fs) (faults_text gs) (length-fault f p.0.1.1.0 ∙ sym (length-fault g q.0.1.1.0)) e in
    let one = same_fault (line_of fault g) f g (fault_stands (line_of fault g) f p.0 split.0) (fault_stands (line_of fault g) g q.0 refl) in
    let more = same_faults fs gs p.1 q.1 split.1 in
    rw (one, more) refl

pub one_reading : (front : List ℕ) (x y : EntryLine) → IsEntryLine (front ++ 10 ∷ []) x → IsEntryLine (front ++ 10 ∷ []) y → x ≡ y
one_reading front x y h i =
    let s = said front x h in
    let t = said front y i in
    let heads = same_head (take column.head_width front) (head_of x) (head_of y) h.call.control i.call.control s.head_stands t.head_stands in
    let faults = same_faults x.call.faults y.call.faults s.whole t.whole (s.faults ∙ sym t.faults) in
    ap (λ (z : Head). line_from z x.call.faults) heads ∙ ap (λ (zs : List Fault). line_from (head_of y) zs) faults
