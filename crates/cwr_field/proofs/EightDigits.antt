-- Eight digits at once, lane by lane.
use Rattle.std.proofs.Common.{◌≡◌, ◌∙◌, ℕ, suc, ◌+◌, ◌-◌, ◌*◌, ◌%◌, ◌<◌, ◌≤◌, ◌^◌, Bool, true, false, cond, eqb, ltb, not, ◌&&◌, List, [], ◌∷◌, length, map, replicate, get_or, Some, None, Fits, refl, sym, ap, subst, arith, w8, w32}
use Rattle.std.specs.List.{list_all}
use Rattle.std.specs.Char.{is_ascii_digit}
use Rattle.std.specs.Str.Parse.{digits_value, AllDigits}
use Rattle.std.proofs.lemmas.Int.Digits.{digits_value-lt}
use Rattle.std.proofs.lemmas.Bool.Decides.{nat_tests}
use Rattle.std.proofs.lemmas.List.{length-map}
use Rattle.std.proofs.lemmas.Simd.{tops_compared, mask_l-mod, zip2_splat, zip2_splat_left}
use Rattle.cwr_field.specs.Number.{number_of}
use Rattle.cwr_field.proofs.lemmas.DigitSteps.{is_digit}
use Rattle.cwr_field.proofs.lemmas.Tests.{parts}
use lib.Lanes.{mask_l, top, zip2, fold_l, Each1}
use mir.Val.{bits, hbits}

-- a byte less '0', which wraps below it
abbrev pub less : ℕ → ℕ → ℕ
less a b = (a + (2 ^ bits w8 - b)) % 2 ^ bits w8

abbrev pub lanes : List ℕ → List ℕ
lanes bytes = zip2 less bytes (replicate 8 48)

abbrev pub IsBytes : List ℕ → Type 0
IsBytes bytes = (i : ℕ) → get_or bytes i 0 < 256

-- the bits of the lanes above 9
abbrev pub mask_of : List ℕ → ℕ
mask_of bytes = mask_l (map (top (hbits w8)) (zip2 (λ a b. cond (ltb a b) (2 ^ bits w8 - 1) 0) (replicate 8 9) (lanes bytes))) % 2 ^ 64

same_test : (b : ℕ) → b < 256 → ltb 9 (less b 48) ≡ not (is_ascii_digit b)
same_test b lt = grind (arith, nat_tests)

bit : (b : Bool) (m : ℕ) (rest : Bool) → eqb m 0 ≡ rest → eqb (cond (not b) 1 0 + 2 * m) 0 ≡ (b && rest)
bit true m rest e = grind (arith, nat_tests)
bit false m rest e = grind (arith, nat_tests)

no_bits : (bytes : List ℕ) → IsBytes bytes → eqb (mask_l (map (λ y. ltb 9 y) (map (λ b. less b 48) bytes))) 0 ≡ list_all is_ascii_digit bytes
no_bits [] fits = refl
no_bits (b ∷ bytes) fits =
    ap (λ (t : Bool). eqb (cond t 1 0 + 2 * mask_l (map (λ y. ltb 9 y) (map (λ b. less b 48) bytes))) 0) (same_test b (fits 0))
    ∙ bit (is_ascii_digit b) (mask_l (map (λ y. ltb 9 y) (map (λ b. less b 48) bytes))) (list_all is_ascii_digit bytes) (no_bits bytes (λ i. fits (suc i)))

pub mask_is : (bytes : List ℕ) → length bytes ≡ 8 → IsBytes bytes → eqb (mask_of bytes) 0 ≡ list_all is_ascii_digit bytes
mask_is bytes len fits =
    let is : lanes bytes ≡ map (λ b. less b 48) bytes = zip2_splat less bytes 8 48 len in
    let long : length (map (λ b. less b 48) bytes) ≡ 8 = length-map bytes (λ b. less b 48) ∙ len in
    let tops = tops_compared w8 ltb (replicate 8 9) (map (λ b. less b 48) bytes) ∙ zip2_splat_left ltb 9 8 (map (λ b. less b 48) bytes) long in
    let few : length (map (λ y. ltb 9 y) (map (λ b. less b 48) bytes)) ≤ 64 = omega (arith, long, length-map (map (λ b. less b 48) bytes) (λ y. ltb 9 y)) in
    ap (λ (xs : List ℕ). eqb (mask_l (map (top (hbits w8)) (zip2 (λ a b. cond (ltb a b) (2 ^ bits w8 - 1) 0) (replicate 8 9) xs)) % 2 ^ 64) 0) is
    ∙ ap (λ (ms : List Bool). eqb (mask_l ms % 2 ^ 64) 0) tops
    ∙ ap (λ (n : ℕ). eqb n 0) (mask_l-mod (map (λ y. ltb 9 y) (map (λ b. less b 48) bytes)) 64 few)
    ∙ no_bits bytes fits

-- ---- the sum of the lanes by their worths

abbrev pub add32 : ℕ → ℕ → ℕ
add32 a b = (a + b) % 2 ^ bits w32

abbrev pub mul32 : ℕ → ℕ → ℕ
mul32 a b = (a * b) % 2 ^ bits w32

abbrev pub worths : List ℕ
worths = 10000000 ∷ 1000000 ∷ 100000 ∷ 10000 ∷ 1000 ∷ 100 ∷ 10 ∷ 1 ∷ []

abbrev pub sum_of : List ℕ → ℕ
sum_of xs = fold_l add32 0 (zip2 mul32 xs worths)

eight : (a b c d e f g h : ℕ) → a ≤ 9 → b ≤ 9 → c ≤ 9 → d ≤ 9 → e ≤ 9 → f ≤ 9 → g ≤ 9 → h ≤ 9
    → sum_of (a ∷ b ∷ c ∷ d ∷ e ∷ f ∷ g ∷ h ∷ []) ≡ (((((((0 * 10 + a) * 10 + b) * 10 + c) * 10 + d) * 10 + e) * 10 + f) * 10 + g) * 10 + h
eight a b c d e f g h la lb lc ld le lf lg lh = omega arith

pub lane : (b : ℕ) → 48 ≤ b → b ≤ 57 → less b 48 ≡ b - 48
lane b low high = omega (arith, low, high)

abbrev horner : ℕ → ℕ → ℕ → ℕ → ℕ → ℕ → ℕ → ℕ → ℕ
horner a b c d e f g h = (((((((0 * 10 + a) * 10 + b) * 10 + c) * 10 + d) * 10 + e) * 10 + f) * 10 + g) * 10 + h

pub sum_is : (bytes : List ℕ) → length bytes ≡ 8 → list_all is_ascii_digit bytes ≡ true → sum_of (lanes bytes) ≡ digits_value 10 bytes
sum_is [] len all = absurd (omega arith)
sum_is (a ∷ []) len all = absurd (omega arith)
sum_is (a ∷ b ∷ []) len all = absurd (omega arith)
sum_is (a ∷ b ∷ c ∷ []) len all = absurd (omega arith)
sum_is (a ∷ b ∷ c ∷ d ∷ []) len all = absurd (omega arith)
sum_is (a ∷ b ∷ c ∷ d ∷ e ∷ []) len all = absurd (omega arith)
sum_is (a ∷ b ∷ c ∷ d ∷ e ∷ f ∷ []) len all = absurd (omega arith)
sum_is (a ∷ b ∷ c ∷ d ∷ e ∷ f ∷ g ∷ []) len all = absurd (omega arith)
sum_is (a ∷ b ∷ c ∷ d ∷ e ∷ f ∷ g ∷ h ∷ i ∷ more) len all = absurd (omega arith)
sum_is (a ∷ b ∷ c ∷ d ∷ e ∷ f ∷ g ∷ h ∷ []) len all =
    let pa = parts (is_ascii_digit a) (list_all is_ascii_digit (b ∷ c ∷ d ∷ e ∷ f ∷ g ∷ h ∷ [])) all in
    let pb = parts (is_ascii_digit b) (list_all is_ascii_digit (c ∷ d ∷ e ∷ f ∷ g ∷ h ∷ [])) pa.1 in
    let pc = parts (is_ascii_digit c) (list_all is_ascii_digit (d ∷ e ∷ f ∷ g ∷ h ∷ [])) pb.1 in
    let pd = parts (is_ascii_digit d) (list_all is_ascii_digit (e ∷ f ∷ g ∷ h ∷ [])) pc.1 in
    let pe = parts (is_ascii_digit e) (list_all is_ascii_digit (f ∷ g ∷ h ∷ [])) pd.1 in
    let pf = parts (is_ascii_digit f) (list_all is_ascii_digit (g ∷ h ∷ [])) pe.1 in
    let pg = parts (is_ascii_digit g) (list_all is_ascii_digit (h ∷ [])) pf.1 in
    let ph = parts (is_ascii_digit h) true pg.1 in
    let va = is_digit a pa.0 in let vb = is_digit b pb.0 in let vc = is_digit c pc.0 in let vd = is_digit d pd.0 in
    let ve = is_digit e pe.0 in let vf = is_digit f pf.0 in let vg = is_digit g pg.0 in let vh = is_digit h ph.0 in
    (λ i. sum_of (lane a va.low va.high i ∷ lane b vb.low vb.high i ∷ lane c vc.low vc.high i ∷ lane d vd.low vd.high i ∷ lane e ve.low ve.high i ∷ lane f vf.low vf.high i ∷ lane g vg.low vg.high i ∷ lane h vh.low vh.high i ∷ []))
    ∙ eight (a - 48) (b - 48) (c - 48) (d - 48) (e - 48) (f - 48) (g - 48) (h - 48)
    (omega (arith, va.high)) (omega (arith, vb.high)) (omega (arith, vc.high)) (omega (arith, vd.high)) (omega (arith, ve.high)) (omega (arith, vf.high)) (omega (arith, vg.high)) (omega (arith, vh.high))
    ∙ (λ i. horner (sym va.value i) (sym vb.value i) (sym vc.value i) (sym vd.value i) (sym ve.value i) (sym vf.value i) (sym vg.value i) (sym vh.value i))

-- ---- what the function answers

pub none_of : (bytes : List ℕ) → length bytes ≡ 8 → IsBytes bytes → (mask_of bytes ≡ 0 → ⊥) → number_of bytes ≡ None
none_of bytes len fits set = by (list_all is_ascii_digit bytes) (mask_is bytes len fits)
  where
    by : (b : Bool) → eqb (mask_of bytes) 0 ≡ b → cond b (Some (digits_value 10 bytes)) None ≡ None
    by true e = absurd (set (let q = e in grind (arith, nat_tests)))
    by false e = refl

some : (bytes : List ℕ) → length bytes ≡ 8 → IsBytes bytes → mask_of bytes ≡ 0 → Some (sum_of (lanes bytes)) ≡ number_of bytes
some bytes len fits clear =
    let all : list_all is_ascii_digit bytes ≡ true = sym (mask_is bytes len fits) ∙ ap (λ (n : ℕ). eqb n 0) clear in
    rw (all, sum_is bytes len all) refl

pub all_digits : (bytes : List ℕ) → list_all is_ascii_digit bytes ≡ true → AllDigits 10 bytes
all_digits [] h = tt
all_digits (c ∷ bytes) h =
    let p = parts (is_ascii_digit c) (list_all is_ascii_digit bytes) h in
    let d = is_digit c p.0 in
    (omega (arith, d.value, d.low, d.high), all_digits bytes p.1)

-- the number has no more than eight digits
small : (bytes : List ℕ) → length bytes ≡ 8 → IsBytes bytes → mask_of bytes ≡ 0 → sum_of (lanes bytes) < 10 ^ 8
small bytes len fits clear =
    let all : list_all is_ascii_digit bytes ≡ true = sym (mask_is bytes len fits) ∙ ap (λ (n : ℕ). eqb n 0) clear in
    subst (λ (n : ℕ). sum_of (lanes bytes) < 10 ^ n) len (rw (sum_is bytes len all) (digits_value-lt 10 bytes (all_digits bytes all)))

-- a wider lane holds the same number
as_wide : (xs : List ℕ) → map (λ (x : ℕ). x) xs ≡ xs
as_wide [] = refl
as_wide (x ∷ xs) = ap (λ (l : List ℕ). x ∷ l) (as_wide xs)

pub some_of : (bytes : List ℕ) → length bytes ≡ 8 → IsBytes bytes → mask_of bytes ≡ 0 → Some (sum_of (map (λ (x : ℕ). x) (lanes bytes))) ≡ number_of bytes
some_of bytes len fits clear = ap (λ (xs : List ℕ). Some (sum_of xs)) (as_wide (lanes bytes)) ∙ some bytes len fits clear

pub bound_of : (bytes : List ℕ) → length bytes ≡ 8 → IsBytes bytes → mask_of bytes ≡ 0 → sum_of (map (λ (x : ℕ). x) (lanes bytes)) < 10 ^ 8
bound_of bytes len fits clear = subst (λ (xs : List ℕ). sum_of xs < 10 ^ 8) (sym (as_wide (lanes bytes))) (small bytes len fits clear)

pub fits_less : (xs ys : List ℕ) → Each1 (Fits w32) (zip2 less xs ys)
fits_less [] ys = tt
fits_less (x ∷ xs) [] = tt
fits_less (x ∷ xs) (y ∷ ys) = (record { fits = omega arith }, fits_less xs ys)
