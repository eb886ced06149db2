-- A rule that looks at fields of one record, and is broken, tells one of them.
use Rattle.std.proofs.Common.{◌≡◌, ◌∙◌, ℕ, ◌+◌, Bool, true, false, not, ◌&&◌, ◌||◌, List, [], ◌∷◌, length, drop, inl, inr, refl, ap, sym, subst, arith, Option, Some, None, is_some, is_none}
use Rattle.std.specs.Prelude.{◌⊎◌, slice_index}
use Rattle.std.proofs.lemmas.List.{length-map}
use Rattle.cwr_field.specs.Share.{share_of}
use Rattle.cwr_record.specs.Columns as column
use Rattle.cwr_record.specs.Columns.{field_at}
use Rattle.cwr_record.specs.Kinds.{work_kind_code}
use Rattle.cwr_record.specs.Parties.{ownership_columns, collection_columns, indicator_column, territory_column}
use Rattle.cwr_record.specs.Territory.{territory_of}
use Rattle.cwr_record.specs.RecordTypes.{type_of}
use Rattle.cwr_record.specs.declared.columns.Column.{Column}
use Rattle.cwr_record.specs.declared.record_type.RecordType.{RecordType}
use Rattle.cwr_record.specs.declared.record_type.RecordType.TheVariants.{Spu, Spt, Opu, Swr, Swt, Owr}
use Rattle.cwr_record.specs.declared.works.WorkKind.{WorkKind}
use Rattle.cwr_call.specs.declared.transaction_fault.Fault.{Fault}
use Rattle.cwr_rules.specs.Calls.{call_in}
use Rattle.cwr_rules.specs.Faults.{found, all_found, faults_after, record_rules, head_rules}
use Rattle.cwr_rules.specs.Head.{has_wrong_date, is_copyright_date, is_duration}
use Rattle.cwr_rules.specs.Holds.{IsIn}
use Rattle.cwr_rules.specs.Records.{record_as, record_of, records_of, owned_at, collected_at, territory_at}
use Rattle.cwr_rules.specs.Rules.{name_of, publishers, are_valid, is_wrong, has_wrong_share, has_wrong_territory}
use Rattle.cwr_report.specs.declared.finding.FieldName.{FieldName}
use Rattle.cwr_report.specs.declared.finding.FieldName.TheVariants as name
use Rattle.cwr_report.specs.Fields.{spot_where, fields_of, wrong_dates, wrong_shares, wrong_ownership, wrong_collection, wrong_territory, is_no_indicator}
use Rattle.cwr_report.specs.FindingPlaces.{has_a_field, names_a_field}
use Rattle.cwr_report.specs.Walks.{first_of, line_at}
use Rattle.cwr_report.proofs.Inside.{either, apart}
use Rattle.cwr_report.proofs.Walking.{rest_more}

-- the number of one of these rules that are broken
abbrev Broken : List (ℕ × Bool) → ℕ → Type 0
Broken [] n = ⊥
Broken (rule ∷ rules) n = ((rule.1 ≡ true) × (n ≡ rule.0)) ⊎ Broken rules n

broken_one : (fault : Fault) (k n : ℕ) (rtype : List ℕ) (holds : Bool) → IsIn fault (found k rtype n holds) → (fault.sequence ≡ k) × (holds ≡ true) × (fault.number ≡ n)
broken_one fault k n rtype true (inl same) = (ap (λ (x : Fault). x.sequence) same, refl, ap (λ (x : Fault). x.number) same)
broken_one fault k n rtype true (inr none) = absurd none
broken_one fault k n rtype false none = absurd none

broken : (fault : Fault) (k : ℕ) (rtype : List ℕ) (rules : List (ℕ × Bool)) → IsIn fault (all_found k rtype rules) → (fault.sequence ≡ k) × Broken rules fault.number
broken fault k rtype [] none = absurd none
broken fault k rtype (rule ∷ rules) is =
    either (IsIn fault (found k rtype rule.0 rule.1)) (IsIn fault (all_found k rtype rules)) ((fault.sequence ≡ k) × Broken (rule ∷ rules) fault.number)
    (apart fault (found k rtype rule.0 rule.1) (all_found k rtype rules) is)
    (λ a. let one = broken_one fault k rule.0 rtype rule.1 a in (one.0, inl (one.1, one.2)))
    (λ b. let more = broken fault k rtype rules b in (more.0, inr more.1))

one_of_two : (a b : Bool) (x y : FieldName) (p q : Column) → not (a && b) ≡ true → has_a_field (spot_where (not a) x p ∷ spot_where (not b) y q ∷ None ∷ []) ≡ true
one_of_two false b x y p q e = refl
one_of_two true false x y p q e = refl
one_of_two true true x y p q e = absurd cc

either_of_two : (a b : Bool) (x y : FieldName) (p q : Column) → (a || b) ≡ true → has_a_field (spot_where a x p ∷ spot_where b y q ∷ None ∷ []) ≡ true
either_of_two true b x y p q e = refl
either_of_two false true x y p q e = refl
either_of_two false false x y p q e = absurd cc

one_of_three : (a b c : Option ℕ) (x y z : FieldName) (p q r : Column) → not (is_some a && is_some b && is_some c) ≡ true
    → has_a_field (spot_where (is_none a) x p ∷ spot_where (is_none b) y q ∷ spot_where (is_none c) z r ∷ []) ≡ true
one_of_three None b c x y z p q r e = refl
one_of_three (Some m) None c x y z p q r e = refl
one_of_three (Some m) (Some n) None x y z p q r e = refl
one_of_three (Some m) (Some n) (Some o) x y z p q r e = absurd cc

owned : (t : RecordType) (line : List ℕ) → not (are_valid (owned_at t line)) ≡ true → has_a_field (wrong_ownership line (ownership_columns t)) ≡ true
owned t line e =
    let at = ownership_columns t in
    one_of_three (share_of (field_at line at.performing)) (share_of (field_at line at.mechanical)) (share_of (field_at line at.synchronization))
    name.PerformingOwnership name.MechanicalOwnership name.SynchronizationOwnership at.performing at.mechanical at.synchronization e

collected : (t : RecordType) (line : List ℕ) → not (are_valid (collected_at t line)) ≡ true → has_a_field (wrong_collection line (collection_columns t)) ≡ true
collected t line e =
    let at = collection_columns t in
    one_of_three (share_of (field_at line at.performing)) (share_of (field_at line at.mechanical)) (share_of (field_at line at.synchronization))
    name.PerformingCollection name.MechanicalCollection name.SynchronizationCollection at.performing at.mechanical at.synchronization e

shares_told : (t : RecordType) (line : List ℕ) → has_wrong_share (record_as t line) ≡ true → has_a_field (wrong_shares t line) ≡ true
shares_told Spu line e = owned Spu line e
shares_told Opu line e = owned Opu line e
shares_told Spt line e = collected Spt line e
shares_told Swr line e = owned Swr line e
shares_told Owr line e = owned Owr line e
shares_told Swt line e = collected Swt line e
shares_told _ line e = absurd cc

indicated : (t : RecordType) (line : List ℕ) → is_wrong (territory_at t line) ≡ true → has_a_field (wrong_territory t line) ≡ true
indicated t line e =
    either_of_two (is_no_indicator (slice_index (field_at line (indicator_column t)) 0)) (is_none (territory_of (field_at line (territory_column t)))) name.Indicator name.Territory (indicator_column t) (territory_column t) e

territory_told : (t : RecordType) (line : List ℕ) → has_wrong_territory (record_as t line) ≡ true → has_a_field (wrong_territory t line) ≡ true
territory_told Spt line e = indicated Spt line e
territory_told Swt line e = indicated Swt line e
territory_told _ line e = absurd cc

abbrev Tells : ℕ → List ℕ → Type 0
Tells n line = has_a_field (fields_of n line) ≡ true

of_record : (parties before : List (List ℕ)) (line : List ℕ) (n : ℕ) → Broken (record_rules parties (records_of before) (record_of line)) n → Tells n line
of_record parties before line n (inl one) = subst (λ m. Tells m line) (sym one.1) refl
of_record parties before line n (inr (inl one)) = subst (λ m. Tells m line) (sym one.1) (shares_told (type_of line) line one.0)
of_record parties before line n (inr (inr (inl one))) = subst (λ m. Tells m line) (sym one.1) refl
of_record parties before line n (inr (inr (inr (inl one)))) = subst (λ m. Tells m line) (sym one.1) refl
of_record parties before line n (inr (inr (inr (inr (inl one))))) = subst (λ m. Tells m line) (sym one.1) refl
of_record parties before line n (inr (inr (inr (inr (inr (inl one)))))) = subst (λ m. Tells m line) (sym one.1) (territory_told (type_of line) line one.0)
of_record parties before line n (inr (inr (inr (inr (inr (inr none)))))) = absurd none

-- a rule that names no field is none of those that do
names_none : (n m : ℕ) (line : List ℕ) → n ≡ m → names_a_field m ≡ false → names_a_field n ≡ true → Tells n line
names_none n m line same none some = absurd (no (sym none ∙ ap names_a_field (sym same) ∙ some))
  where
    no : false ≡ true → ⊥
    no e = absurd cc

dates_told : (head : List ℕ) → has_wrong_date head ≡ true → has_a_field (wrong_dates head) ≡ true
dates_told head e =
    one_of_two (is_copyright_date (field_at head column.work_head_copyright_date)) (is_duration (field_at head column.work_head_duration)) name.CopyrightDate name.Duration column.work_head_copyright_date column.work_head_duration e

of_head : (head : List ℕ) (details : List (List ℕ)) (n : ℕ) → Broken (head_rules head (records_of details)) n → names_a_field n ≡ true → Tells n head
of_head head details n (inl one) names = subst (λ m. Tells m head) (sym one.1) refl
of_head head details n (inr (inl one)) names = subst (λ m. Tells m head) (sym one.1) refl
of_head head details n (inr (inr (inl one))) names = subst (λ m. Tells m head) (sym one.1) refl
of_head head details n (inr (inr (inr (inl one)))) names = subst (λ m. Tells m head) (sym one.1) (dates_told head one.0)
of_head head details n (inr (inr (inr (inr (inl one))))) names = names_none n 10 head one.1 refl names
of_head head details n (inr (inr (inr (inr (inr (inl one)))))) names = names_none n 11 head one.1 refl names
of_head head details n (inr (inr (inr (inr (inr (inr (inl one))))))) names = names_none n 12 head one.1 refl names
of_head head details n (inr (inr (inr (inr (inr (inr (inr (inl one)))))))) names = names_none n 13 head one.1 refl names
of_head head details n (inr (inr (inr (inr (inr (inr (inr (inr (inl one))))))))) names = names_none n 15 head one.1 refl names
of_head head details n (inr (inr (inr (inr (inr (inr (inr (inr (inr none))))))))) names = absurd none

-- of the records of some lines, which are those of the transaction after so many
of_lines : (fault : Fault) (parties all before lines : List (List ℕ)) → drop (length before + 1) all ≡ lines
    → IsIn fault (faults_after parties (records_of before) (records_of lines)) → Tells fault.number (line_at all fault.sequence)
of_lines fault parties all before [] left none = absurd none
of_lines fault parties all before (line ∷ lines) left is =
    let r = record_of line in
    let so_far = records_of before in
    let here = all_found (length so_far + 1) (name_of r) (record_rules parties so_far r) in
    let later = faults_after parties (records_of (line ∷ before)) (records_of lines) in
    let size : length so_far ≡ length before = length-map before record_of in
    let next : length (line ∷ before) + 1 ≡ length before + 1 + 1 = omega arith in
    either (IsIn fault here) (IsIn fault later) (Tells fault.number (line_at all fault.sequence)) (apart fault here later is)
    (λ a.
    let one = broken fault (length so_far + 1) (name_of r) (record_rules parties so_far r) a in
    let at : fault.sequence ≡ length before + 1 = one.0 ∙ ap (λ (k : ℕ). k + 1) size in
    let stands : line_at all fault.sequence ≡ line = ap (λ (k : ℕ). line_at all k) at ∙ ap first_of left in
    subst (λ (l : List ℕ). Tells fault.number l) (sym stands) (of_record parties before line fault.number one.1))
    (λ b. of_lines fault parties all (line ∷ before) lines (ap (λ (k : ℕ). drop k all) next ∙ rest_more (length before + 1) all line lines left) b)

of_transaction : (submitter : List ℕ) (kind : WorkKind) (head : List ℕ) (details all : List (List ℕ)) (fault : Fault) → first_of all ≡ head → drop 1 all ≡ details
    → IsIn fault (all_found 0 (work_kind_code kind) (head_rules head (records_of details))) ⊎ IsIn fault (faults_after (publishers (records_of details)) [] (records_of details))
    → names_a_field fault.number ≡ true → Tells fault.number (line_at all fault.sequence)
of_transaction submitter kind head details all fault first left (inl a) names =
    let one = broken fault 0 (work_kind_code kind) (head_rules head (records_of details)) a in
    let stands : line_at all fault.sequence ≡ head = ap (λ (k : ℕ). line_at all k) one.0 ∙ first in
    subst (λ (l : List ℕ). Tells fault.number l) (sym stands) (of_head head details fault.number one.1 names)
of_transaction submitter kind head details all fault first left (inr b) names =
    of_lines fault (publishers (records_of details)) all [] details left b

pub told : (submitter : List ℕ) (kind : WorkKind) (lines : List (List ℕ)) (fault : Fault) → IsIn fault (call_in submitter kind lines).faults
    → names_a_field fault.number ≡ true → Tells fault.number (line_at lines fault.sequence)
told submitter kind [] fault is names =
    of_transaction submitter kind [] [] [] fault refl refl (apart fault (all_found 0 (work_kind_code kind) (head_rules [] (records_of []))) (faults_after (publishers (records_of [])) [] (records_of [])) is) names
told submitter kind (head ∷ details) fault is names =
    of_transaction submitter kind head details (head ∷ details) fault refl refl
    (apart fault (all_found 0 (work_kind_code kind) (head_rules head (records_of details))) (faults_after (publishers (records_of details)) [] (records_of details)) is) names
