-- Texts without control bytes, many bytes at once.
use Rattle.std.proofs.Common.{◌≡◌, ◌∙◌, ℕ, suc, ◌+◌, ◌-◌, ◌≤◌, ◌<◌, leb, not, Bool, true, false, List, [], ◌∷◌, length, take, drop, get_or, replicate, IsTrue, arith, refl, ap, ⊎_elim}
use Rattle.std.specs.Prelude.{◌==◌}
use Rattle.std.proofs.lemmas.Simd.{get_or-chunk}
use Rattle.std.proofs.lemmas.List.{length-take, length-drop, get_or-take, take-append-le}
use Rattle.std.proofs.lemmas.List.Folds.{list_any_none}
use Rattle.std.proofs.lemmas.List.Elements.{All-from_get_or}
use Rattle.std.proofs.lemmas.Bool.Decides.{nat_tests}
use Rattle.std.proofs.lemmas.Bool.{cases_lt}
use Rattle.cwr_call.specs.Lawful.{is_clean}
use Rattle.cwr_field.specs.Layout.{field, min_printable, is_control, is_printable}
use Rattle.cwr_field.proofs.lemmas.Tests.{both}
use Rattle.cwr_record.specs.Columns.{field_at}
use Rattle.work_registry.specs.RegisterColumns as column
use Rattle.work_registry.specs.RegisterFaults.{has_end}

pub none : (b : Bool) → IsTrue (not b) → b ≡ false
none true e = absurd cc
none false e = refl

-- ---- the fields of fixed place

no_line_end : (b : ℕ) → is_control b ≡ false → (b == 10) ≡ false
no_line_end b e = grind (arith, nat_tests)

-- three blocks, of which the last begins in the one before it
pub three_blocks : (text : List ℕ) → ((k : ℕ) → 0 ≤ k → k < 0 + 64 → is_control (get_or text k 0) ≡ false) → ((k : ℕ) → 64 ≤ k → k < 64 + 64 → is_control (get_or text k 0) ≡ false)
    → ((k : ℕ) → 109 ≤ k → k < 109 + 64 → is_control (get_or text k 0) ≡ false) → 173 ≤ length text → has_end (take 173 text) ≡ false
three_blocks text one two three long =
    list_any_none (λ (b : ℕ). b == 10) (take 173 text) (All-from_get_or (λ b. (b == 10) ≡ false) (take 173 text) 0
    (λ k lt.
    let near : k < 173 = omega (arith, lt, length-take 173 text) in
    ap (λ (b : ℕ). b == 10) (get_or-take 173 text k 0 near) ∙ no_line_end (get_or text k 0) (within k near)))
  where
    within : (k : ℕ) → k < 173 → is_control (get_or text k 0) ≡ false
    within k near = ⊎_elim (λ (a : k < 64). one k (omega arith) (omega (arith, a))) (λ (b : 64 ≤ k). ⊎_elim (λ (c : k < 128). two k b (omega (arith, c))) (λ (d : 128 ≤ k). three k (omega (arith, d)) (omega (arith, near))) (cases_lt k 128)) (cases_lt k 64)

-- ---- texts

printable_byte : (b : ℕ) → is_control b ≡ false → leb min_printable b ≡ true
printable_byte b e = grind (arith, nat_tests)

each_printable : (xs : List ℕ) → ((i : ℕ) → i < length xs → is_control (get_or xs i 0) ≡ false) → is_printable xs ≡ true
each_printable [] each = refl
each_printable (x ∷ xs) each =
    both (leb min_printable x) (is_printable xs) (printable_byte x (each 0 (omega arith))) (each_printable xs (λ i lt. each (suc i) (omega (arith, lt))))

clean_field : (line : List ℕ) (start n : ℕ) → (start - 1) + n ≤ 100 → 100 ≤ length line → ((k : ℕ) → k < 100 → is_control (get_or line k 0) ≡ false) → is_printable (field line start n) ≡ true
clean_field line start n within long each =
    let at : ℕ = start - 1 in
    let inside : n ≤ length (drop at line) = omega (arith, within, long, length-drop at line) in
    ap is_printable (take-append-le n (drop at line) (replicate n 32) inside)
    ∙ each_printable (take n (drop at line)) (λ i lt.
    let near : i < n = omega (arith, lt, length-take n (drop at line)) in
    ap is_control (get_or-chunk at n line i 0 near) ∙ each (at + i) (omega (arith, near, within)))

-- two blocks, of which the last begins in the first
pub texts : (line : List ℕ) → 100 ≤ length line → ((k : ℕ) → 0 ≤ k → k < 0 + 64 → is_control (get_or line k 0) ≡ false) → ((k : ℕ) → 36 ≤ k → k < 36 + 64 → is_control (get_or line k 0) ≡ false)
    → IsTrue (is_clean (field_at line column.submitter)) × IsTrue (is_clean (field_at line column.title)) × IsTrue (is_clean (field_at line column.number))
texts line long one two =
    let each : (k : ℕ) → k < 100 → is_control (get_or line k 0) ≡ false = λ k lt. ⊎_elim (λ (a : k < 64). one k (omega arith) (omega (arith, a))) (λ (b : 64 ≤ k). two k (omega (arith, b)) (omega (arith, lt))) (cases_lt k 64) in
    (clean_field line column.submitter.start column.submitter.width (omega arith) long each, clean_field line column.title.start column.title.width (omega arith) long each, clean_field line column.number.start column.number.width (omega arith) long each)
