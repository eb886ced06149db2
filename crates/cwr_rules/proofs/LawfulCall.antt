-- The call of a transaction is lawful.
use Rattle.std.proofs.Common.{◌≡◌, ℕ, ◌≤◌, Bool, true, false, leb, not, List, [], ◌∷◌, ◌++◌, length, Option, refl, sym, subst, arith, IsTrue}
use Rattle.std.specs.Prelude.{◌||◌, filter}
use Rattle.std.proofs.lemmas.Bool.Decides.{nat_tests}
use Rattle.cwr_record.specs.Columns as column
use Rattle.cwr_record.specs.Columns.{field_at}
use Rattle.cwr_field.specs.Iswc.{iswc_of}
use Rattle.cwr_call.specs.declared.transaction_fault.Fault.{Fault}
use Rattle.cwr_record.specs.declared.works.WorkKind.{WorkKind}
use Rattle.cwr_record.specs.Kinds.{work_kind_code}
use Rattle.cwr_rules.specs.declared.record.Record.{Record}
use Rattle.cwr_rules.specs.declared.record.Record.TheVariants.{Spu, Opu, Spt, Swr, Owr, Swt, Pwr, Alt, Xrf, Carried}
use Rattle.cwr_rules.specs.declared.record.Shares.{Shares}
use Rattle.cwr_rules.specs.declared.totals.Totals.{Totals}
use Rattle.cwr_call.specs.Lawful.{max_faults, max_sum, is_clean, is_iswc, is_lawful, is_none_found, is_whole, are_at_most, are_faults}
use Rattle.cwr_rules.specs.Totals.{total, performing_share, mechanical_share, synchronization_share, owns, controls, ownership, control}
use Rattle.cwr_rules.specs.Calls.{three, call_from}
use Rattle.cwr_rules.specs.Rules.{publishers}
use Rattle.cwr_rules.specs.Head.{is_off, number_in}
use Rattle.cwr_rules.specs.Faults.{found, all_found, faults_after, faults_of, head_rules}
use Rattle.cwr_rules.specs.Collected.{AreCapped}
use Rattle.cwr_rules.proofs.SmallShares.{TotalsLe, totals_le}
use Rattle.cwr_rules.proofs.Rising.{faults_rise}
use Rattle.cwr_field.proofs.lemmas.Printable.{printable-field}
use Rattle.cwr_field.proofs.lemmas.Tests.{both}
use Rattle.cwr_field.specs.Number.{max_count}
use Rattle.cwr_field.specs.Share.{max_whole}
use Rattle.cwr_rules.proofs.FaultForms.{le_test, faults_are}
use Rattle.cwr_rules.proofs.lemmas.FewFaults.{faults_few}

at_most : (limit : ℕ) (t : Totals) → TotalsLe limit t → are_at_most limit (three t) ≡ true
at_most limit t h =
    both (leb t.performing limit) _ (le_test t.performing limit h.performing)
    (both (leb t.mechanical limit) _ (le_test t.mechanical limit h.mechanical) (both (leb t.synchronization limit) true (le_test t.synchronization limit h.synchronization) refl))

control_small : (records : List Record) → length records ≤ max_count → AreCapped records → are_at_most max_sum (three (control records)) ≡ true
control_small records lt capped =
    let le = totals_le controls records capped in
    at_most max_sum (control records) (record { performing = omega (arith, le.performing); mechanical = omega (arith, le.mechanical); synchronization = omega (arith, le.synchronization) })

-- what is controlled is owned
controlled_le : (right : Shares → Option ℕ) (records : List Record) → total right (filter controls records) ≤ total right (filter owns records)
controlled_le right [] = omega arith
controlled_le right (Spu a s ∷ rs) = let h = controlled_le right rs in omega arith
controlled_le right (Opu a s ∷ rs) = let h = controlled_le right rs in omega arith
controlled_le right (Spt a s t ∷ rs) = controlled_le right rs
controlled_le right (Swr a s ∷ rs) = let h = controlled_le right rs in omega arith
controlled_le right (Owr s ∷ rs) = let h = controlled_le right rs in omega arith
controlled_le right (Swt a s t ∷ rs) = controlled_le right rs
controlled_le right (Pwr a ∷ rs) = controlled_le right rs
controlled_le right (Alt ∷ rs) = controlled_le right rs
controlled_le right (Xrf ∷ rs) = controlled_le right rs
controlled_le right (Carried a ∷ rs) = controlled_le right rs

none_parts : (xs ys : List Fault) → is_none_found (xs ++ ys) ≡ true → (is_none_found xs ≡ true) × (is_none_found ys ≡ true)
none_parts [] ys e = (refl, e)
none_parts (x ∷ xs) ys e = absurd cc

not_found : (k n : ℕ) (t : List ℕ) (b : Bool) → is_none_found (found k t n b) ≡ true → b ≡ false
not_found k n t false e = refl
not_found k n t true e = absurd cc

near : (n : ℕ) → is_off n ≡ false → n ≤ max_whole
near n e = grind (arith, nat_tests)

abbrev NoneHolds : List (ℕ × Bool) → Type 0
NoneHolds [] = Unit {0}
NoneHolds (rule ∷ rules) = (rule.1 ≡ false) × NoneHolds rules

none_holds : (k : ℕ) (t : List ℕ) (rules : List (ℕ × Bool)) → is_none_found (all_found k t rules) ≡ true → NoneHolds rules
none_holds k t [] e = tt
none_holds k t (rule ∷ rules) e =
    let two = none_parts (found k t rule.0 rule.1) (all_found k t rules) e in
    (not_found k rule.0 t rule.1 two.0, none_holds k t rules two.1)

without_faults : (kind : WorkKind) (head : List ℕ) (records : List Record) → is_none_found (faults_of kind head records) ≡ true → are_at_most max_whole (three (control records)) ≡ true
without_faults kind head records e =
    let of_whole = (none_parts (all_found 0 (work_kind_code kind) (head_rules head records)) (faults_after (publishers records) [] records) e).0 in
    let h = none_holds 0 (work_kind_code kind) (head_rules head records) of_whole in
    at_most max_whole (control records) (record {
      performing = omega (arith, near (ownership records).performing h.1.1.1.1.1.0, controlled_le performing_share records);
      mechanical = omega (arith, near (ownership records).mechanical h.1.1.1.1.1.1.0, controlled_le mechanical_share records);
      synchronization = omega (arith, near (ownership records).synchronization h.1.1.1.1.1.1.1.0, controlled_le synchronization_share records);
    })

whole : (kind : WorkKind) (head : List ℕ) (records : List Record) → is_whole (faults_of kind head records) (three (control records)) ≡ true
whole kind head records =
    let P : Bool → Type 0 = λ b. is_none_found (faults_of kind head records) ≡ b → (not b || are_at_most max_whole (three (control records))) ≡ true in
    (elim (is_none_found (faults_of kind head records)) as P [ true ↦ λ e. without_faults kind head records e | false ↦ λ e. refl ]) refl

right_faults : (kind : WorkKind) (head : List ℕ) (records : List Record) → length records ≤ max_count → are_faults (faults_of kind head records) ≡ true
right_faults kind head records lt =
    both _ _ (both _ _ (le_test (length (faults_of kind head records)) max_faults (omega (arith, lt, faults_few kind head records))) (faults_are kind head records lt)) (faults_rise kind head records)

pub lawful : (submitter head : List ℕ) (kind : WorkKind) (records : List Record) → length records ≤ max_count → AreCapped records
    → is_clean submitter ≡ true → is_clean head ≡ true → is_iswc (call_from submitter kind head records).iswc ≡ true → is_lawful (call_from submitter kind head records) ≡ true
lawful submitter head kind records lt capped a b i =
    both _ _ (both _ _ (both _ _ (both _ _ (both _ _ (both _ _ a (printable-field head column.work_head_title.start column.work_head_title.width b)) (printable-field head column.work_head_submitter_number.start column.work_head_submitter_number.width b)) i) (control_small records lt capped)) (whole kind head records)) (right_faults kind head records lt)

-- the same of parts that are those of the call
pub lawful_from : (submitter head title number : List ℕ) (kind : WorkKind) (iswc : Option ℕ) (t : Totals) (records : List Record) (out : List Fault)
    → length records ≤ max_count → AreCapped records → IsTrue (is_clean submitter) → IsTrue (is_clean head) → IsTrue (is_iswc iswc)
    → title ≡ field_at head column.work_head_title → number ≡ field_at head column.work_head_submitter_number → iswc ≡ number_in (iswc_of (field_at head column.work_head_iswc)) → t ≡ control records → out ≡ faults_of kind head records
    → IsTrue (is_lawful (record { submitter = submitter; kind = kind; title = title; number = number; iswc = iswc; control = three t; faults = out }))
lawful_from submitter head title number kind iswc t records out lt capped a b i title_is number_is iswc_is control_is faults_are_all =
    let P : List ℕ → List ℕ → Option ℕ → Totals → List Fault → Type 0 = λ v w x y z. IsTrue (is_lawful (record { submitter = submitter; kind = kind; title = v; number = w; iswc = x; control = three y; faults = z })) in
    let R : Option ℕ → Type 0 = λ x. is_iswc x ≡ true in
    let whole_is : P (field_at head column.work_head_title) (field_at head column.work_head_submitter_number) (number_in (iswc_of (field_at head column.work_head_iswc))) (control records) (faults_of kind head records) = lawful submitter head kind records lt capped a b (subst R iswc_is i) in
    let P0 : List Fault → Type 0 = λ z. P (field_at head column.work_head_title) (field_at head column.work_head_submitter_number) (number_in (iswc_of (field_at head column.work_head_iswc))) (control records) z in
    let P1 : Totals → Type 0 = λ y. P (field_at head column.work_head_title) (field_at head column.work_head_submitter_number) (number_in (iswc_of (field_at head column.work_head_iswc))) y out in
    let P2 : Option ℕ → Type 0 = λ x. P (field_at head column.work_head_title) (field_at head column.work_head_submitter_number) x t out in
    let P3 : List ℕ → Type 0 = λ w. P (field_at head column.work_head_title) w iswc t out in
    let P4 : List ℕ → Type 0 = λ v. P v number iswc t out in
    subst P4 (sym title_is) (subst P3 (sym number_is) (subst P2 (sym iswc_is) (subst P1 (sym control_is) (subst P0 (sym faults_are_all) whole_is))))
