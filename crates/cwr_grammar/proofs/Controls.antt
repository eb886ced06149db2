-- The first control byte, 64 bytes at a time.
use Rattle.std.proofs.Common.{◌≡◌, ℕ, zero, suc, ◌+◌, ◌-◌, ◌≤◌, ◌<◌, ◌^◌, ◌%◌, ltb, eqb, Bool, true, false, cond, List, [], ◌∷◌, ◌++◌, length, map, take, drop, get_or, replicate, Some, None, arith, refl, sym, ap, ◌∙◌, w8, ⊎_elim}
use Rattle.std.specs.List.{position_or_len, position}
use Rattle.std.proofs.lemmas.Simd.{bitmask_splat, first_set_mask_l, run_in_chunk_fails, run_in_chunk_stops, get_or-chunk}
use Rattle.std.proofs.lemmas.List.{length-take, length-drop}
use Rattle.std.proofs.lemmas.List.Sums.{position_or_len_is, prefix_len-le-length}
use Rattle.std.proofs.lemmas.Bool.Decides.{nat_tests}
use Rattle.std.proofs.lemmas.Bool.{cases_lt, not-false}
use Rattle.std.proofs.Common.{eq-eqb, leb, not}
use Rattle.std.specs.List.{slice_index}
use Rattle.std.proofs.lemmas.List.{take_at}
use Rattle.std.proofs.lemmas.List.{get_or-take, take_more}
use Rattle.std.proofs.lemmas.List.Sums.{fails_before_first}
use Rattle.cwr_field.proofs.lemmas.Tests.{both}
use Rattle.std.specs.Str.Lines.{lines, strip_carriage_return}
use Rattle.cwr_field.specs.Layout.{min_printable, is_control, is_printable}
use Rattle.cwr_grammar.proofs.FirstLine.{lines-ended, lines-take_ended}
use Rattle.cwr_grammar.specs.FaultTests.{has_control}
use lib.Count.{count_trailing_zeros, trailing_of_zero}
use lib.Lanes.{mask_l, top, zip2}
use mir.Val.{bits, hbits}

abbrev pub mask_of : List ℕ → ℕ
mask_of xs = mask_l (map (top (hbits w8)) (zip2 (λ a b. cond (ltb a b) (2 ^ bits w8 - 1) 0) xs (replicate 64 min_printable))) % 2 ^ 64

block_length : (text : List ℕ) (at : ℕ) → at + 64 ≤ length text → length (take 64 (drop at text)) ≡ 64
block_length text at le = omega (arith, le, length-take 64 (drop at text), length-drop at text)

-- the lowest bit that is set tells the first control byte; where none is, all 64 come before
lowest_bit : (mask n : ℕ) → cond (eqb mask 0) 64 (count_trailing_zeros 64 mask) ≡ n → count_trailing_zeros 64 mask ≡ n
lowest_bit zero n e = trailing_of_zero 64 ∙ e
lowest_bit (suc mask) n e = let some : eqb (suc mask) 0 ≡ false = grind (arith, nat_tests) in sym (ap (λ (b : Bool). cond b 64 (count_trailing_zeros 64 (suc mask))) some) ∙ e

pub mask_tells : (text : List ℕ) (at : ℕ) → at + 64 ≤ length text → count_trailing_zeros 64 (mask_of (take 64 (drop at text))) ≡ position_or_len is_control (take 64 (drop at text))
mask_tells text at le =
    let long = block_length text at le in
    ap (count_trailing_zeros 64) (bitmask_splat w8 ltb (take 64 (drop at text)) 64 min_printable long (omega arith))
    ∙ lowest_bit _ _ (first_set_mask_l is_control (take 64 (drop at text)) 64 long (omega arith))

pub none_tells : (text : List ℕ) (at : ℕ) → at + 64 ≤ length text → ((k : ℕ) → at ≤ k → k < at + 64 → is_control (get_or text k 0) ≡ false) → 64 ≡ position_or_len is_control (take 64 (drop at text))
none_tells text at le none =
    let long = block_length text at le in
    sym (position_or_len_is is_control (take 64 (drop at text)) 64 0 (omega (arith, long)) (λ k lt. ap is_control (get_or-chunk at 64 text k 0 lt) ∙ none (at + k) (omega arith) (omega (arith, lt))) (λ lt. absurd (omega (arith, lt, long))))

passes_before : (text : List ℕ) (at n : ℕ) → ((k : ℕ) → at ≤ k → k < at + n → is_control (get_or text k 0) ≡ false) → ((k : ℕ) → k < at → is_control (get_or text k 0) ≡ false)
    → (k : ℕ) → k < at + n → is_control (get_or text k 0) ≡ false
passes_before text at n here before k lt = ⊎_elim (λ l. before k l) (λ ge. here k ge lt) (cases_lt k at)

-- no control byte in one block more
pub block_passes : (text : List ℕ) (at n : ℕ) → at + 64 ≤ length text → n ≡ position_or_len is_control (take 64 (drop at text)) → 64 ≤ n → ((k : ℕ) → k < at → is_control (get_or text k 0) ≡ false)
    → (k : ℕ) → k < at + 64 → is_control (get_or text k 0) ≡ false
block_passes text at n le is full before k lt = passes_before text at n (λ j low high. run_in_chunk_fails is_control text at 64 n 0 le is j low high) before k (omega (arith, full, lt))

pub block_stops : (text : List ℕ) (at n : ℕ) → at + 64 ≤ length text → n ≡ position_or_len is_control (take 64 (drop at text)) → n < 64 → ((k : ℕ) → k < at → is_control (get_or text k 0) ≡ false)
    → at + n ≡ position_or_len is_control text
block_stops text at n le is short before =
    sym (position_or_len_is is_control text (at + n) 0 (omega (arith, le, short)) (λ k lt. passes_before text at n (λ j low high. run_in_chunk_fails is_control text at 64 n 0 le is j low high) before k lt)
    (λ lt. run_in_chunk_stops is_control text at 64 n 0 le is short))

pub stops_at : (text : List ℕ) (at : ℕ) → at < length text → get_or text at 0 < min_printable → ((k : ℕ) → k < at → is_control (get_or text k 0) ≡ false) → at ≡ position_or_len is_control text
stops_at text at lt small before = let h : is_control (get_or text at 0) ≡ true = grind (arith, nat_tests) in sym (position_or_len_is is_control text at 0 (omega (arith, lt)) before (λ _. h))

pub stops_after : (text : List ℕ) (at : ℕ) → at ≤ length text → length text ≤ at → ((k : ℕ) → k < at → is_control (get_or text k 0) ≡ false) → at ≡ position_or_len is_control text
stops_after text at le ge before = sym (position_or_len_is is_control text at 0 le before (λ lt. absurd (omega (arith, lt, ge))))

-- what the last block says, where no byte before them is a control byte
pub last_is : (text : List ℕ) (start n : ℕ) → start + 64 ≡ length text → n ≡ position_or_len is_control (take 64 (drop start text)) → ((k : ℕ) → k + 64 < length text → is_control (get_or text k 0) ≡ false)
    → start + n ≡ position_or_len is_control text
last_is text start n whole is before =
    let le : start + 64 ≤ length text = omega (arith, whole) in
    let short : position_or_len is_control (take 64 (drop start text)) ≤ length (take 64 (drop start text)) = prefix_len-le-length (λ b. not (is_control b)) (take 64 (drop start text)) in
    let front : (k : ℕ) → k < start → is_control (get_or text k 0) ≡ false = λ k lt. before k (omega (arith, whole, lt)) in
    sym (position_or_len_is is_control text (start + n) 0 (omega (arith, le, is, short, block_length text start le)) (λ k lt. passes_before text start n (λ j low high. run_in_chunk_fails is_control text start 64 n 0 le is j low high) front k lt)
    (λ lt. run_in_chunk_stops is_control text start 64 n 0 le is (omega (arith, lt, whole))))

-- ---- the end of a line at the first control byte

below : (text : List ℕ) (end : ℕ) → end ≡ position_or_len is_control text → (k : ℕ) → k < end → is_control (get_or text k 0) ≡ false
below text end is k lt = fails_before_first is_control text k 0 (omega (arith, lt, is))

no_newline : (b : ℕ) → is_control b ≡ false → eqb b 10 ≡ false
no_newline b e = grind (arith, nat_tests)

no_return : (b : ℕ) → is_control b ≡ false → eqb b 13 ≡ false
no_return b e = grind (arith, nat_tests)

position_at : (text : List ℕ) (end : ℕ) → end < length text → ((k : ℕ) → k < end → eqb (get_or text k 0) 10 ≡ false) → get_or text end 0 ≡ 10 → Some end ≡ position (λ b. eqb b 10) text
position_at text end lt before at =
    let here : position_or_len (λ b. eqb b 10) text ≡ end = position_or_len_is (λ b. eqb b 10) text end 0 (omega (arith, lt)) before (λ _. eq-eqb _ _ at) in
    let inside : ltb (position_or_len (λ b. eqb b 10) text) (length text) ≡ true = grind (arith, nat_tests, here, lt) in
    sym (ap (λ (b : Bool). cond b (Some (position_or_len (λ b. eqb b 10) text)) None) inside ∙ ap (λ (n : ℕ). Some n) here)

ends_newline : (text : List ℕ) (end : ℕ) → end ≡ position_or_len is_control text → end < length text → get_or text end 0 ≡ 10 → Some end ≡ position (λ b. eqb b 10) text
ends_newline text end is lt at = position_at text end lt (λ k l. no_newline _ (below text end is k l)) at

ends_return : (text : List ℕ) (end : ℕ) → end ≡ position_or_len is_control text → end + 1 < length text → get_or text end 0 ≡ 13 → get_or text (end + 1) 0 ≡ 10 → Some (end + 1) ≡ position (λ b. eqb b 10) text
ends_return text end is lt at next =
    position_at text (end + 1) lt
    (λ k l. ⊎_elim (λ (less : k < end). no_newline _ (below text end is k less)) (λ (ge : end ≤ k). let same : k ≡ end = omega (arith, l, ge) in ap (λ (j : ℕ). eqb (get_or text j 0) 10) same ∙ ap (λ (b : ℕ). eqb b 10) at) (cases_lt k end)) next

printable_byte : (b : ℕ) → is_control b ≡ false → leb min_printable b ≡ true
printable_byte b e = grind (arith, nat_tests)

each_printable : (xs : List ℕ) → ((i : ℕ) → i < length xs → is_control (get_or xs i 0) ≡ false) → is_printable xs ≡ true
each_printable [] each = refl
each_printable (x ∷ xs) each =
    both (leb min_printable x) (is_printable xs) (printable_byte x (each 0 (omega arith))) (each_printable xs (λ i lt. each (suc i) (omega (arith, lt))))

no_control : (xs : List ℕ) → is_printable xs ≡ true → has_control xs ≡ false
no_control xs h = ap not h

pub printable : (xs : List ℕ) → has_control xs ≡ false → is_printable xs ≡ true
printable xs h = not-false (is_printable xs) h

clean_front : (text : List ℕ) (end : ℕ) → end ≡ position_or_len is_control text → end ≤ length text → has_control (take end text) ≡ false
clean_front text end is le =
    no_control (take end text) (each_printable (take end text) (λ i lt. let near : i < end = omega (arith, lt, length-take end text) in rw (get_or-take end text i 0 near) (below text end is i near)))

-- such a front keeps its last byte, which is no CR
whole_front : (text : List ℕ) (end : ℕ) → end ≡ position_or_len is_control text → end ≤ length text → strip_carriage_return (take end text) ≡ take end text
whole_front text zero is le = refl
whole_front text (suc n) is le =
    let long : length (take (suc n) text) - 1 ≡ n = omega (arith, le, length-take (suc n) text) in
    let last : slice_index (take (suc n) text) (length (take (suc n) text) - 1) ≡ get_or text n 0 = ap (λ (k : ℕ). slice_index (take (suc n) text) k) long ∙ get_or-take (suc n) text n 0 (omega arith) in
    let test : eqb (slice_index (take (suc n) text) (length (take (suc n) text) - 1)) 13 ≡ false = ap (λ (b : ℕ). eqb b 13) last ∙ no_return _ (below text (suc n) is n (omega arith)) in
    ap (λ (b : Bool). cond b (take (length (take (suc n) text) - 1) (take (suc n) text)) (take (suc n) text)) test

-- and a CR behind it is stripped
front_of_return : (text : List ℕ) (end : ℕ) → end + 1 < length text → get_or text end 0 ≡ 13 → strip_carriage_return (take (end + 1) text) ≡ take end text
front_of_return text end lt at =
    let long : length (take (end + 1) text) - 1 ≡ end = omega (arith, lt, length-take (end + 1) text) in
    let last : slice_index (take (end + 1) text) (length (take (end + 1) text) - 1) ≡ 13 = ap (λ (n : ℕ). slice_index (take (end + 1) text) n) long ∙ get_or-take (end + 1) text end 0 (omega arith) ∙ at in
    let test : eqb (slice_index (take (end + 1) text) (length (take (end + 1) text) - 1)) 13 ≡ true = eq-eqb _ _ last in
    ap (λ (b : Bool). cond b (take (length (take (end + 1) text) - 1) (take (end + 1) text)) (take (end + 1) text)) test
    ∙ ap (λ (n : ℕ). take n (take (end + 1) text)) long
    ∙ ap (λ (xs : List ℕ). take end xs) (take_more text end 0 (omega (arith, lt)))
    ∙ take_at (take end text) (get_or text end 0 ∷ []) end (omega (arith, lt, length-take end text))

-- ---- a line without a control byte, and its end

-- the first line, whose bytes with its end are so many, before any other bytes too
pub record IsCleanLine (text : List ℕ) (end size : ℕ) : Type 0 where
  pub split : lines text ≡ take end text ∷ lines (drop size text)
  pub whole : (more : List ℕ) → lines (take size text ++ more) ≡ take end text ∷ lines more
  pub clean : has_control (take end text) ≡ false

ended_by : (text : List ℕ) (end last size : ℕ) → end ≡ position_or_len is_control text → end ≤ length text → Some last ≡ position (λ b. eqb b 10) text → size ≡ last + 1 → strip_carriage_return (take last text) ≡ take end text
    → IsCleanLine text end size
ended_by text end last size is le at size_is front = rw size_is (record {
  split = lines-ended text last at ∙ ap (λ (xs : List ℕ). xs ∷ lines (drop (last + 1) text)) front;
  whole = λ more. lines-take_ended text last at more ∙ ap (λ (xs : List ℕ). xs ∷ lines more) front;
  clean = clean_front text end is le;
})

pub clean_newline : (text : List ℕ) (end : ℕ) → end ≡ position_or_len is_control text → end < length text → get_or text end 0 ≡ 10 → IsCleanLine text end (end + 1)
clean_newline text end is lt at = ended_by text end end (end + 1) is (omega (arith, lt)) (ends_newline text end is lt at) refl (whole_front text end is (omega (arith, lt)))

pub clean_return : (text : List ℕ) (end : ℕ) → end ≡ position_or_len is_control text → end + 1 < length text → get_or text end 0 ≡ 13 → get_or text (end + 1) 0 ≡ 10 → IsCleanLine text end (end + 2)
clean_return text end is lt at next = ended_by text end (end + 1) (end + 2) is (omega (arith, lt)) (ends_return text end is lt at next) (omega arith) (front_of_return text end lt at)
