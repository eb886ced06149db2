-- Many bytes looked at at once, lane by lane.
use Rattle.std.proofs.Common.{◌≡◌, ◌∙◌, ℕ, suc, ◌+◌, ◌-◌, ◌*◌, ◌≤◌, ◌<◌, ◌^◌, ◌%◌, ltb, eqb, not, Bool, true, false, cond, List, [], ◌∷◌, length, map, take, drop, get_or, replicate, arith, refl, sym, ap, w8, ⊎_elim}
use Rattle.std.proofs.lemmas.Simd.{bitmask_splat, mask_l-mod, none_from_empty_mask, leading_from_mask_l, tops_compared, zip2_splat_left, get_or-chunk, get_or-zip2, length-zip2, get_or-sel_l, length-sel_l}
use Rattle.std.proofs.lemmas.List.{length-take, length-drop, length-map}
use Rattle.std.proofs.lemmas.List.Sums.{fails_before_first}
use Rattle.std.proofs.lemmas.Bool.Decides.{nat_tests}
use Rattle.std.proofs.lemmas.Bool.{cases_lt}
use lib.Lanes.{mask_l, sel_l, top, zip2}
use mir.Val.{bits, hbits}

is_empty : (mask : ℕ) → not (eqb mask 0) ≡ false → mask ≡ 0
is_empty mask e = grind (arith, nat_tests)

chunk_length : (n : ℕ) (bytes : List ℕ) (at : ℕ) → at + n ≤ length bytes → length (take n (drop at bytes)) ≡ n
chunk_length n bytes at le = omega (arith, le, length-take n (drop at bytes), length-drop at bytes)

-- what the lanes of two rows tell that are compared
abbrev pub mask_of : (ℕ → ℕ → Bool) → List ℕ → List ℕ → ℕ
mask_of t xs ys = mask_l (map (top (hbits w8)) (zip2 (λ a b. cond (t a b) (2 ^ bits w8 - 1) 0) xs ys)) % 2 ^ 64

right_mask : (t : ℕ → ℕ → Bool) (y n : ℕ) (xs : List ℕ) → n ≤ 64 → length xs ≡ n → mask_of t (replicate n y) xs ≡ mask_l (map (λ x. t y x) xs)
right_mask t y n xs few long =
    ap (λ (ms : List Bool). mask_l ms % 2 ^ 64) (tops_compared w8 t (replicate n y) xs ∙ zip2_splat_left t y n xs long)
    ∙ mask_l-mod (map (λ x. t y x) xs) 64 (omega (arith, few, long, length-map xs (λ x. t y x)))

-- where no lane tells one, no byte of a chunk is one that is compared so with another
pub none_left : (t : ℕ → ℕ → Bool) (y n : ℕ) (bytes : List ℕ) (at : ℕ) → n ≤ 64 → at + n ≤ length bytes → not (eqb (mask_of t (take n (drop at bytes)) (replicate n y)) 0) ≡ false
    → (k : ℕ) → at ≤ k → k < at + n → t (get_or bytes k 0) y ≡ false
none_left t y n bytes at few le e =
    none_from_empty_mask (λ x. t x y) bytes at n 0 le (sym (bitmask_splat w8 t (take n (drop at bytes)) n y (chunk_length n bytes at le) few) ∙ is_empty _ e)

-- the same, compared the other way round
pub none_right : (t : ℕ → ℕ → Bool) (y n : ℕ) (bytes : List ℕ) (at : ℕ) → n ≤ 64 → at + n ≤ length bytes → not (eqb (mask_of t (replicate n y) (take n (drop at bytes))) 0) ≡ false
    → (k : ℕ) → at ≤ k → k < at + n → t y (get_or bytes k 0) ≡ false
none_right t y n bytes at few le e =
    none_from_empty_mask (λ x. t y x) bytes at n 0 le (sym (right_mask t y n (take n (drop at bytes)) few (chunk_length n bytes at le)) ∙ is_empty _ e)

-- a mask of lanes of which none passes is empty
empty_mask : (p : ℕ → Bool) (xs : List ℕ) → ((i : ℕ) → i < length xs → p (get_or xs i 0) ≡ false) → mask_l (map p xs) ≡ 0
empty_mask p [] none = refl
empty_mask p (x ∷ xs) none =
    let here : p x ≡ false = none 0 (omega arith) in
    let later : mask_l (map p xs) ≡ 0 = empty_mask p xs (λ i lt. none (suc i) (omega (arith, lt))) in
    λ i. cond (here i) 1 0 + 2 * later i

tells_none : (mask n : ℕ) → mask ≡ n → n ≡ 0 → not (eqb mask 0) ≡ false
tells_none mask n e z = ap (λ (m : ℕ). not (eqb m 0)) (e ∙ z)

-- where no byte of a chunk is one that is compared so with another, no lane tells one
pub left_none : (t : ℕ → ℕ → Bool) (y n : ℕ) (bytes : List ℕ) (at : ℕ) → n ≤ 64 → at + n ≤ length bytes
    → ((k : ℕ) → at ≤ k → k < at + n → t (get_or bytes k 0) y ≡ false) → not (eqb (mask_of t (take n (drop at bytes)) (replicate n y)) 0) ≡ false
left_none t y n bytes at few le none =
    let long = chunk_length n bytes at le in
    tells_none _ _ (bitmask_splat w8 t (take n (drop at bytes)) n y long few) (empty_mask (λ x. t x y) (take n (drop at bytes)) (λ i lt.
    let lt : i < n = omega (arith, lt, long) in ap (λ (x : ℕ). t x y) (get_or-chunk at n bytes i 0 lt) ∙ none (at + i) (omega arith) (omega (arith, lt))))

-- the same, compared the other way round
pub right_none : (t : ℕ → ℕ → Bool) (y n : ℕ) (bytes : List ℕ) (at : ℕ) → n ≤ 64 → at + n ≤ length bytes
    → ((k : ℕ) → at ≤ k → k < at + n → t y (get_or bytes k 0) ≡ false) → not (eqb (mask_of t (replicate n y) (take n (drop at bytes))) 0) ≡ false
right_none t y n bytes at few le none =
    let long = chunk_length n bytes at le in
    tells_none _ _ (right_mask t y n (take n (drop at bytes)) few long) (empty_mask (λ x. t y x) (take n (drop at bytes)) (λ i lt.
    let lt : i < n = omega (arith, lt, long) in ap (λ (x : ℕ). t y x) (get_or-chunk at n bytes i 0 lt) ∙ none (at + i) (omega arith) (omega (arith, lt))))

-- ---- the lesser or the greater of each two bytes

-- of each two bytes one of two others, by which of them is less
abbrev pub chosen : List ℕ → List ℕ → List ℕ → List ℕ → List ℕ
chosen xs ys us vs = sel_l (map (top (hbits w8)) (zip2 (λ a b. cond (ltb a b) (2 ^ bits w8 - 1) 0) xs ys)) us vs

tests_length : (xs ys : List ℕ) → length xs ≡ length ys → length (map (top (hbits w8)) (zip2 (λ a b. cond (ltb a b) (2 ^ bits w8 - 1) 0) xs ys)) ≡ length xs
tests_length xs ys same = ap (λ (ms : List Bool). length ms) (tops_compared w8 ltb xs ys) ∙ length-zip2 ltb xs ys same

chosen_length : (xs ys us vs : List ℕ) (n : ℕ) → length xs ≡ n → length ys ≡ n → length us ≡ n → length vs ≡ n → length (chosen xs ys us vs) ≡ n
chosen_length xs ys us vs n a b c d =
    let tests = tests_length xs ys (a ∙ sym b) ∙ a in
    length-sel_l _ us vs (tests ∙ sym c) (tests ∙ sym d) ∙ tests

chosen_at : (xs ys us vs : List ℕ) (n i : ℕ) → length xs ≡ n → length ys ≡ n → length us ≡ n → length vs ≡ n → i < n
    → get_or (chosen xs ys us vs) i 0 ≡ cond (ltb (get_or xs i 0) (get_or ys i 0)) (get_or us i 0) (get_or vs i 0)
chosen_at xs ys us vs n i a b c d lt =
    get_or-sel_l _ us vs i 0 (omega (arith, lt, a, tests_length xs ys (a ∙ sym b))) (omega (arith, lt, c)) (omega (arith, lt, d))
    ∙ ap (λ (t : Bool). cond t (get_or us i 0) (get_or vs i 0)) (ap (λ (ms : List Bool). get_or ms i false) (tops_compared w8 ltb xs ys) ∙ get_or-zip2 ltb xs ys i 0 0 false (omega (arith, lt, a)) (omega (arith, lt, b)))

-- where each byte that was chosen stands for two, none of the 64 is one that no chosen byte is
both_halves : (p : ℕ → Bool) (bytes picked : List ℕ) (at : ℕ) → at + 64 ≤ length bytes → length picked ≡ 32 → mask_l (map p picked) ≡ 0
    → ((i : ℕ) → i < 32 → p (get_or picked i 0) ≡ false → (p (get_or bytes (at + i) 0) ≡ false) × (p (get_or bytes (at + 32 + i) 0) ≡ false))
    → (k : ℕ) → at ≤ k → k < at + 64 → p (get_or bytes k 0) ≡ false
both_halves p bytes picked at le long none each k low high =
    let here : (i : ℕ) → i < 32 → p (get_or picked i 0) ≡ false = λ i lt. fails_before_first p picked i 0 (omega (arith, lt, leading_from_mask_l p picked none, long)) in
    ⊎_elim (λ (near : k < at + 32). let place : at + (k - at) ≡ k = omega (arith, low) in let lt : k - at < 32 = omega (arith, low, near) in ap (λ (j : ℕ). p (get_or bytes j 0)) (sym place) ∙ (each (k - at) lt (here (k - at) lt)).0)
    (λ (far : at + 32 ≤ k). let place : at + 32 + (k - (at + 32)) ≡ k = omega (arith, far) in let lt : k - (at + 32) < 32 = omega (arith, far, high) in ap (λ (j : ℕ). p (get_or bytes j 0)) (sym place) ∙ (each (k - (at + 32)) lt (here (k - (at + 32)) lt)).1)
    (cases_lt k (at + 32))

lesser_below : (a b y : ℕ) → ltb (cond (ltb a b) a b) y ≡ false → (ltb a y ≡ false) × (ltb b y ≡ false)
lesser_below a b y e = (grind (arith, nat_tests), grind (arith, nat_tests))

greater_above : (a b y : ℕ) → ltb y (cond (ltb a b) b a) ≡ false → (ltb y a ≡ false) × (ltb y b ≡ false)
greater_above a b y e = (grind (arith, nat_tests), grind (arith, nat_tests))

-- where no lane of the lesser bytes tells one, no byte of the 64 is below the limit
pub none_below : (y : ℕ) (bytes : List ℕ) (at : ℕ) → at + 64 ≤ length bytes
    → not (eqb (mask_of ltb (chosen (take 32 (drop at bytes)) (take 32 (drop (at + 32) bytes)) (take 32 (drop at bytes)) (take 32 (drop (at + 32) bytes))) (replicate 32 y)) 0) ≡ false
    → (k : ℕ) → at ≤ k → k < at + 64 → ltb (get_or bytes k 0) y ≡ false
none_below y bytes at le e =
    let xs : List ℕ = take 32 (drop at bytes) in
    let ys : List ℕ = take 32 (drop (at + 32) bytes) in
    let one : length xs ≡ 32 = chunk_length 32 bytes at (omega (arith, le)) in
    let other : length ys ≡ 32 = chunk_length 32 bytes (at + 32) (omega (arith, le)) in
    let long = chosen_length xs ys xs ys 32 one other one other in
    both_halves (λ x. ltb x y) bytes (chosen xs ys xs ys) at le long (sym (bitmask_splat w8 ltb (chosen xs ys xs ys) 32 y long (omega arith)) ∙ is_empty _ e) (λ i lt h.
    let h = lesser_below (get_or xs i 0) (get_or ys i 0) y (ap (λ (x : ℕ). ltb x y) (sym (chosen_at xs ys xs ys 32 i one other one other lt)) ∙ h) in
    (ap (λ (x : ℕ). ltb x y) (sym (get_or-chunk at 32 bytes i 0 lt)) ∙ h.0, ap (λ (x : ℕ). ltb x y) (sym (get_or-chunk (at + 32) 32 bytes i 0 lt)) ∙ h.1))

-- where no lane of the greater bytes tells one, no byte of the 64 is above the limit
pub none_above : (y : ℕ) (bytes : List ℕ) (at : ℕ) → at + 64 ≤ length bytes
    → not (eqb (mask_of ltb (replicate 32 y) (chosen (take 32 (drop at bytes)) (take 32 (drop (at + 32) bytes)) (take 32 (drop (at + 32) bytes)) (take 32 (drop at bytes)))) 0) ≡ false
    → (k : ℕ) → at ≤ k → k < at + 64 → ltb y (get_or bytes k 0) ≡ false
none_above y bytes at le e =
    let xs : List ℕ = take 32 (drop at bytes) in
    let ys : List ℕ = take 32 (drop (at + 32) bytes) in
    let one : length xs ≡ 32 = chunk_length 32 bytes at (omega (arith, le)) in
    let other : length ys ≡ 32 = chunk_length 32 bytes (at + 32) (omega (arith, le)) in
    let long = chosen_length xs ys ys xs 32 one other other one in
    both_halves (λ x. ltb y x) bytes (chosen xs ys ys xs) at le long (sym (right_mask ltb y 32 (chosen xs ys ys xs) (omega arith) long) ∙ is_empty _ e) (λ i lt h.
    let h = greater_above (get_or xs i 0) (get_or ys i 0) y (ap (λ (x : ℕ). ltb y x) (sym (chosen_at xs ys ys xs 32 i one other other one lt)) ∙ h) in
    (ap (λ (x : ℕ). ltb y x) (sym (get_or-chunk at 32 bytes i 0 lt)) ∙ h.0, ap (λ (x : ℕ). ltb y x) (sym (get_or-chunk (at + 32) 32 bytes i 0 lt)) ∙ h.1))

-- one of two that both do not pass
neither : (p : ℕ → Bool) (c : Bool) (a b : ℕ) → p a ≡ false → p b ≡ false → p (cond c a b) ≡ false
neither p true a b one other = one
neither p false a b one other = other

-- where no byte of the 64 passes, none of those passes that were chosen of each two
none_chosen : (p : ℕ → Bool) (bytes : List ℕ) (at : ℕ) → ((k : ℕ) → at ≤ k → k < at + 64 → p (get_or bytes k 0) ≡ false)
    → (i : ℕ) → i < 32 → (p (get_or (take 32 (drop at bytes)) i 0) ≡ false) × (p (get_or (take 32 (drop (at + 32) bytes)) i 0) ≡ false)
none_chosen p bytes at none i lt = (
  ap p (get_or-chunk at 32 bytes i 0 lt) ∙ none (at + i) (omega arith) (omega (arith, lt)),
  ap p (get_or-chunk (at + 32) 32 bytes i 0 lt) ∙ none (at + 32 + i) (omega arith) (omega (arith, lt)),
)

-- where no byte of the 64 is below the limit, no lane of the lesser bytes tells one
pub below_none : (y : ℕ) (bytes : List ℕ) (at : ℕ) → at + 64 ≤ length bytes → ((k : ℕ) → at ≤ k → k < at + 64 → ltb (get_or bytes k 0) y ≡ false)
    → not (eqb (mask_of ltb (chosen (take 32 (drop at bytes)) (take 32 (drop (at + 32) bytes)) (take 32 (drop at bytes)) (take 32 (drop (at + 32) bytes))) (replicate 32 y)) 0) ≡ false
below_none y bytes at le none =
    let xs : List ℕ = take 32 (drop at bytes) in
    let ys : List ℕ = take 32 (drop (at + 32) bytes) in
    let one : length xs ≡ 32 = chunk_length 32 bytes at (omega (arith, le)) in
    let other : length ys ≡ 32 = chunk_length 32 bytes (at + 32) (omega (arith, le)) in
    let long = chosen_length xs ys xs ys 32 one other one other in
    tells_none _ _ (bitmask_splat w8 ltb (chosen xs ys xs ys) 32 y long (omega arith)) (empty_mask (λ x. ltb x y) (chosen xs ys xs ys) (λ i lt.
    let lt : i < 32 = omega (arith, lt, long) in
    let each = none_chosen (λ x. ltb x y) bytes at none i lt in
    ap (λ (x : ℕ). ltb x y) (chosen_at xs ys xs ys 32 i one other one other lt) ∙ neither (λ x. ltb x y) (ltb (get_or xs i 0) (get_or ys i 0)) (get_or xs i 0) (get_or ys i 0) each.0 each.1))

-- where no byte of the 64 is above the limit, no lane of the greater bytes tells one
pub above_none : (y : ℕ) (bytes : List ℕ) (at : ℕ) → at + 64 ≤ length bytes → ((k : ℕ) → at ≤ k → k < at + 64 → ltb y (get_or bytes k 0) ≡ false)
    → not (eqb (mask_of ltb (replicate 32 y) (chosen (take 32 (drop at bytes)) (take 32 (drop (at + 32) bytes)) (take 32 (drop (at + 32) bytes)) (take 32 (drop at bytes)))) 0) ≡ false
above_none y bytes at le none =
    let xs : List ℕ = take 32 (drop at bytes) in
    let ys : List ℕ = take 32 (drop (at + 32) bytes) in
    let one : length xs ≡ 32 = chunk_length 32 bytes at (omega (arith, le)) in
    let other : length ys ≡ 32 = chunk_length 32 bytes (at + 32) (omega (arith, le)) in
    let long = chosen_length xs ys ys xs 32 one other other one in
    tells_none _ _ (right_mask ltb y 32 (chosen xs ys ys xs) (omega arith) long) (empty_mask (λ x. ltb y x) (chosen xs ys ys xs) (λ i lt.
    let lt : i < 32 = omega (arith, lt, long) in
    let each = none_chosen (λ x. ltb y x) bytes at none i lt in
    ap (λ (x : ℕ). ltb y x) (chosen_at xs ys ys xs 32 i one other other one lt) ∙ neither (λ x. ltb y x) (ltb (get_or xs i 0) (get_or ys i 0)) (get_or ys i 0) (get_or xs i 0) each.1 each.0))

-- ---- a run of bytes

-- one that begins before and ends with the last ones that were looked at
pub none_to : (p : ℕ → Bool) (bytes : List ℕ) (at start end : ℕ) → start ≤ at → ((k : ℕ) → k < at → p (get_or bytes k 0) ≡ false) → ((k : ℕ) → start ≤ k → k < end → p (get_or bytes k 0) ≡ false)
    → (k : ℕ) → k < end → p (get_or bytes k 0) ≡ false
none_to p bytes at start end le before here k lt = ⊎_elim (λ l. before k l) (λ ge. here k (omega (arith, le, ge)) lt) (cases_lt k at)
