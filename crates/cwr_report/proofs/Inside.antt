-- The sequence of a fault is that of a line of its transaction.
use Rattle.std.proofs.Common.{◌≡◌, ◌≤◌, ◌<◌, ℕ, ◌+◌, Bool, true, false, List, [], ◌∷◌, ◌++◌, length, inl, inr, ap, arith}
use Rattle.std.proofs.lemmas.List.{length-map}
use Rattle.std.specs.Prelude.{◌⊎◌}
use Rattle.cwr_record.specs.declared.works.WorkKind.{WorkKind}
use Rattle.cwr_record.specs.Kinds.{work_kind_code}
use Rattle.cwr_call.specs.declared.transaction_fault.Fault.{Fault}
use Rattle.cwr_check.specs.CheckText.{faults_in}
use Rattle.cwr_grammar.specs.RawParts.{RawParts}
use Rattle.cwr_rules.specs.Calls.{call_in}
use Rattle.cwr_rules.specs.Faults.{found, all_found, faults_after, record_rules, head_rules}
use Rattle.cwr_rules.specs.Holds.{IsIn}
use Rattle.cwr_rules.specs.Records.{record_of, records_of}
use Rattle.cwr_rules.specs.Rules.{name_of, publishers}

pub either : (A B C : Type 0) → A ⊎ B → (A → C) → (B → C) → C
either A B C (inl a) f g = f a
either A B C (inr b) f g = g b

-- one of the two lists has it
pub apart : (fault : Fault) (xs ys : List Fault) → IsIn fault (xs ++ ys) → IsIn fault xs ⊎ IsIn fault ys
apart fault [] ys is = inr is
apart fault (x ∷ xs) ys (inl same) = inl (inl same)
apart fault (x ∷ xs) ys (inr later) =
    either (IsIn fault xs) (IsIn fault ys) (IsIn fault (x ∷ xs) ⊎ IsIn fault ys) (apart fault xs ys later) (λ a. inl (inr a)) (λ b. inr b)

found_at : (fault : Fault) (k n : ℕ) (rtype : List ℕ) (holds : Bool) → IsIn fault (found k rtype n holds) → fault.sequence ≡ k
found_at fault k n rtype true (inl same) = ap (λ (x : Fault). x.sequence) same
found_at fault k n rtype true (inr none) = absurd none
found_at fault k n rtype false none = absurd none

all_at : (fault : Fault) (k : ℕ) (rtype : List ℕ) (rules : List (ℕ × Bool)) → IsIn fault (all_found k rtype rules) → fault.sequence ≡ k
all_at fault k rtype [] none = absurd none
all_at fault k rtype (rule ∷ rules) is =
    either (IsIn fault (found k rtype rule.0 rule.1)) (IsIn fault (all_found k rtype rules)) (fault.sequence ≡ k)
    (apart fault (found k rtype rule.0 rule.1) (all_found k rtype rules) is)
    (λ a. found_at fault k rule.0 rtype rule.1 a) (λ b. all_at fault k rtype rules b)

-- of the records of some lines, after those of others, which are the newest first
below_lines : (fault : Fault) (parties before lines : List (List ℕ)) → IsIn fault (faults_after parties (records_of before) (records_of lines))
    → fault.sequence ≤ length before + length lines
below_lines fault parties before [] none = absurd none
below_lines fault parties before (line ∷ lines) is =
    let r = record_of line in
    let so_far = records_of before in
    let here = all_found (length so_far + 1) (name_of r) (record_rules parties so_far r) in
    let later = faults_after parties (records_of (line ∷ before)) (records_of lines) in
    let size : length so_far ≡ length before = length-map before record_of in
    either (IsIn fault here) (IsIn fault later) (fault.sequence ≤ length before + length (line ∷ lines)) (apart fault here later is)
    (λ a. let at = all_at fault (length so_far + 1) (name_of r) (record_rules parties so_far r) a in omega (arith, at, size))
    (λ b. let at = below_lines fault parties (line ∷ before) lines b in omega (arith, at))

of_lines : (submitter : List ℕ) (kind : WorkKind) (lines : List (List ℕ)) (fault : Fault) → 0 < length lines → IsIn fault (call_in submitter kind lines).faults
    → fault.sequence < length lines
of_lines submitter kind [] fault some is = absurd (omega (arith, some))
of_lines submitter kind (head ∷ details) fault some is =
    let records = records_of details in
    let whole = all_found 0 (work_kind_code kind) (head_rules head records) in
    let later = faults_after (publishers records) [] records in
    either (IsIn fault whole) (IsIn fault later) (fault.sequence < length (head ∷ details)) (apart fault whole later is)
    (λ a. let at = all_at fault 0 (work_kind_code kind) (head_rules head records) a in omega (arith, at))
    (λ b. let at = below_lines fault (publishers records) [] details b in omega (arith, at))

pub is_inside : (submitter : List ℕ) (t : RawParts) (fault : Fault) → 0 < length t.lines → IsIn fault (faults_in submitter t) → fault.sequence < length t.lines
is_inside submitter t fault some is = of_lines submitter t.kind t.lines fault some is
