-- A judge after one line more, and at the end of the lines.
use Rattle.std.proofs.Common.{◌≡◌, ℕ, ◌+◌, ◌<◌, ◌≤◌, List, [], ◌∷◌, ◌++◌, length, reverse, refl, sym, ap, subst, ◌∙◌, append_assoc, append-nil, arith, IsTrue}
use Rattle.std.proofs.lemmas.List.{length-map, length-reverse, map-append, reverse-append}
use Rattle.cwr_call.specs.CallValue.{CallValue}
use Rattle.cwr_call.specs.Lawful.{is_iswc}
use Rattle.cwr_call.specs.declared.transaction_fault.Fault.{Fault}
use Rattle.cwr_field.specs.Number.{max_count}
use Rattle.cwr_record.specs.declared.works.WorkKind.{WorkKind}
use Rattle.cwr_rules.specs.declared.finding.Finding.{Finding}
use Rattle.cwr_rules.specs.declared.header.HeaderFields.{HeaderFields}
use Rattle.cwr_rules.specs.declared.record.Record.{Record}
use Rattle.cwr_rules.specs.declared.totals.Totals.{Totals}
use Rattle.cwr_rules.specs.declared.sums.Sums.{Sums}
use Rattle.cwr_rules.specs.Collected.{AreSmall, AreSmallSums, found_in, found_among, value_at}
use Rattle.cwr_rules.specs.Calls.{three, call_in}
use Rattle.cwr_rules.specs.Faults.{faults_of}
use Rattle.cwr_rules.specs.HeaderFields.{header_fields}
use Rattle.cwr_rules.specs.Judging.{JudgeState, value_of_judge, IsJudging}
use Rattle.cwr_rules.specs.Records.{record_of, records_of}
use Rattle.cwr_rules.specs.Rules.{publishers}
use Rattle.cwr_rules.specs.TransactionState.{IsAfterRecords, IsAfterAll, standing}
use Rattle.cwr_rules.specs.Totals.{owns, controls, control, collects_at}
use Rattle.cwr_rules.proofs.Findings.{all_come}
use Rattle.cwr_rules.proofs.SmallShares.{records_capped, totals_small}
use Rattle.cwr_rules.proofs.Turned.{turned, summary_turned}

onto : (rest before : List Record) → turned rest before ≡ reverse rest ++ before
onto [] before = refl
onto (r ∷ rest) before =
    onto rest (r ∷ before) ∙ sym (append_assoc (reverse rest) (r ∷ []) before)
    ∙ ap (λ (xs : List Record). xs ++ before) (sym (reverse-append (r ∷ []) rest))

turned_is : (records : List Record) → reverse records ≡ turned records []
turned_is records = sym (append-nil (reverse records)) ∙ sym (onto records [])

-- the newest record of lines is that of the last one
pub newest_first : (details : List (List ℕ)) (line : List ℕ) → record_of line ∷ reverse (records_of details) ≡ reverse (records_of (details ++ line ∷ []))
newest_first details line = sym (ap (λ (xs : List Record). reverse xs) (map-append record_of details (line ∷ [])) ∙ reverse-append (records_of details) (record_of line ∷ []))

few_of : (lines details : List (List ℕ)) (head : List ℕ) → lines ≡ head ∷ details → length lines ≤ max_count → length (records_of details) < max_count
few_of lines details head is le =
    let same : length lines ≡ length (head ∷ details) = ap (λ (xs : List (List ℕ)). length xs) is in
    let mapped : length (records_of details) ≡ length details = length-map details record_of in
    omega arith

few_records : (s : JudgeState) (kind : WorkKind) (lines : List (List ℕ)) (h : IsJudging s kind lines) → length lines ≤ max_count → length (records_of h.details) < max_count
few_records s kind lines h le = few_of lines h.details h.head h.lines_are le

-- one more at the end
few_all_of : (lines details : List (List ℕ)) (head : List ℕ) → lines ≡ head ∷ details → length lines ≤ max_count + 1 → length (records_of details) ≤ max_count
few_all_of lines details head is le =
    let same : length lines ≡ length (head ∷ details) = ap (λ (xs : List (List ℕ)). length xs) is in
    let mapped : length (records_of details) ≡ length details = length-map details record_of in
    omega arith

pub few_all : (s : JudgeState) (kind : WorkKind) (lines : List (List ℕ)) (h : IsJudging s kind lines) → length lines ≤ max_count + 1 → length (records_of h.details) ≤ max_count
few_all s kind lines h le = few_all_of lines h.details h.head h.lines_are le

-- each line counts
pub lines_counted : (s : JudgeState) (kind : WorkKind) (lines : List (List ℕ)) → IsJudging s kind lines → s.count + 1 ≡ length lines
lines_counted s kind lines h =
    let same : length lines ≡ length (h.head ∷ h.details) = ap (λ (xs : List (List ℕ)). length xs) h.lines_are in
    let mapped : length (records_of h.details) ≡ length h.details = length-map h.details record_of in
    let turned : length (reverse (records_of h.details)) ≡ length (records_of h.details) = length-reverse (records_of h.details) in
    let counted = h.so_far.counted in
    omega arith

pub whole_of : (s : JudgeState) (kind : WorkKind) (lines : List (List ℕ)) (h : IsJudging s kind lines)
    → IsAfterAll (value_of_judge s) (records_of h.details)
whole_of s kind lines h =
    let records = records_of h.details in
    let P : List Record → Type 0 = λ rs. IsAfterRecords (value_of_judge s) rs in
    let k = subst P (turned_is records) h.so_far in
    record {
      summary = summary_turned (value_of_judge s).summary records k.summary;
      faults_are = ap (λ (fs : List Finding). standing (publishers records) fs) k.findings_are ∙ all_come records;
    }

-- one line more can be counted, and its shares added
pub few : (s : JudgeState) (kind : WorkKind) (lines : List (List ℕ)) → IsJudging s kind lines → length lines ≤ max_count → s.count < max_count
few s kind lines h le =
    let records = records_of h.details in
    let a = few_records s kind lines h le in
    let b : length (reverse records) ≡ length records = length-reverse records in
    let c = h.so_far.counted in
    omega arith

pub small_sums : (s : JudgeState) (kind : WorkKind) (lines : List (List ℕ)) → IsJudging s kind lines → length lines ≤ max_count → AreSmallSums s.sums
small_sums s kind lines h le =
    let records = records_of h.details in
    let lt = few_records s kind lines h le in
    let sums = (whole_of s kind lines h).summary.sums_are in
    (totals_small owns records _ lt (records_capped h.details) (ap (λ (t : Sums). t.ownership) sums), totals_small controls records _ lt (records_capped h.details) (ap (λ (t : Sums). t.control) sums))

pub small_totals : (s : JudgeState) (kind : WorkKind) (lines : List (List ℕ)) → IsJudging s kind lines → length lines ≤ max_count → (q : ℕ) → AreSmall (value_at (found_in s.first_code (found_among s.codes)) q)
small_totals s kind lines h le q =
    totals_small (collects_at q) (records_of h.details) _ (few_records s kind lines h le) (records_capped h.details) ((whole_of s kind lines h).summary.collected.values q)

pub one_more : (s t : JudgeState) (kind : WorkKind) (lines : List (List ℕ)) (line : List ℕ) (h : IsJudging s kind lines) → t.header ≡ s.header
    → IsAfterRecords (value_of_judge t) (record_of line ∷ reverse (records_of h.details))
    → IsJudging t kind (lines ++ line ∷ [])
one_more s t kind lines line h same so_far =
    let P : List Record → Type 0 = λ rs. IsAfterRecords (value_of_judge t) rs in
    let Q : HeaderFields → Type 0 = λ x. IsTrue (is_iswc x.iswc) in
    record {
      head = h.head;
      details = h.details ++ line ∷ [];
      lines_are = ap (λ (xs : List (List ℕ)). xs ++ line ∷ []) h.lines_are;
      clean = h.clean;
      header_is = same ∙ h.header_is;
      nine_digits = subst Q (sym same) h.nine_digits;
      so_far = subst P (newest_first h.details line) so_far;
    }

abbrev made : List ℕ → HeaderFields → Totals → List Fault → CallValue
made submitter header t faults = record { submitter = submitter; kind = header.kind; title = header.title; number = header.number; iswc = header.iswc; control = three t; faults = faults }

-- the parts of a header and of the records are those of the call
pub same_call : (submitter head : List ℕ) (kind : WorkKind) (lines details : List (List ℕ)) (header : HeaderFields) (t : Totals) (faults : List Fault)
    → lines ≡ head ∷ details → header ≡ header_fields kind head → t ≡ control (records_of details) → faults ≡ faults_of kind head (records_of details)
    → made submitter header t faults ≡ call_in submitter kind lines
same_call submitter head kind lines details header t faults lines_are header_is control_is faults_are =
    ap (λ (x : HeaderFields). made submitter x t faults) header_is
    ∙ ap (λ (x : Totals). made submitter (header_fields kind head) x faults) control_is
    ∙ ap (λ (x : List Fault). made submitter (header_fields kind head) (control (records_of details)) x) faults_are
    ∙ ap (λ (x : List (List ℕ)). call_in submitter kind x) (sym lines_are)
