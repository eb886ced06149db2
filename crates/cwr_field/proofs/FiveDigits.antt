-- Five digits at once, as the first of eight bytes of which the last three are zeros.
use Rattle.std.proofs.Common.{◌≡◌, ◌∙◌, ℕ, zero, suc, ◌+◌, ◌-◌, ◌*◌, ◌/◌, ◌%◌, ◌<◌, ◌≤◌, eqb, cond, ◌&&◌, Bool, true, false, List, [], ◌∷◌, ◌++◌, length, take, drop, get_or, Some, None, sym, ap, refl, arith}
use Rattle.std.specs.List.{list_all}
use Rattle.std.specs.Char.{is_ascii_digit}
use Rattle.std.specs.Int.{w32, w64, from_le_bytes, to_le_bytes}
use Rattle.std.specs.Str.Parse.{digits_value}
use Rattle.std.proofs.lemmas.Bool.Decides.{nat_tests}
use Rattle.std.proofs.lemmas.List.Folds.{list_all-append}
use Rattle.std.proofs.lemmas.Nat.{le_bytes_8}
use Rattle.cwr_field.specs.Number.{number_of}
use Rattle.cwr_field.proofs.EightDigits.{IsBytes, lanes, lane, less, mask_is, mask_of}
use Rattle.cwr_field.proofs.lemmas.DigitSteps.{is_digit}
use Rattle.cwr_field.proofs.lemmas.Tests.{parts}

-- the zeros behind the five
abbrev pub zeros : List ℕ
zeros = 48 ∷ 48 ∷ 48 ∷ []

-- five digits as one number, the first of them the least
abbrev joined : ℕ → ℕ → ℕ → ℕ → ℕ → ℕ
joined d e f g h = d + 256 * e + 65536 * f + 16777216 * g + 4294967296 * h

first_pair : (d e f g h : ℕ) → d ≤ 9 → e ≤ 9 → f ≤ 9 → g ≤ 9 → h ≤ 9 → joined d e f g h * 2561 / 256 % 256 ≡ d * 10 + e
first_pair d e f g h p q r s t = omega arith

second_pair : (d e f g h : ℕ) → d ≤ 9 → e ≤ 9 → f ≤ 9 → g ≤ 9 → h ≤ 9 → joined d e f g h * 2561 / 16777216 % 256 ≡ f * 10 + g
second_pair d e f g h p q r s t = omega arith

last_digit : (d e f g h : ℕ) → d ≤ 9 → e ≤ 9 → f ≤ 9 → g ≤ 9 → h ≤ 9 → joined d e f g h / 4294967296 ≡ h
last_digit d e f g h p q r s t = omega arith

-- what is made of the five
abbrev pub number_from : ℕ → ℕ
number_from five = five * 2561 / 256 % 256 * 1000 + five * 2561 / 16777216 % 256 * 10 + five / 4294967296

number_is : (d e f g h : ℕ) → d ≤ 9 → e ≤ 9 → f ≤ 9 → g ≤ 9 → h ≤ 9
    → number_from (joined d e f g h) ≡ ((((0 * 10 + d) * 10 + e) * 10 + f) * 10 + g) * 10 + h
number_is d e f g h p q r s t =
    rw (first_pair d e f g h p q r s t, second_pair d e f g h p q r s t, last_digit d e f g h p q r s t) (omega arith)

-- the lanes behind the five are 0
front : (d e f g h : ℕ) → from_le_bytes w64 (d ∷ e ∷ f ∷ g ∷ h ∷ 0 ∷ 0 ∷ 0 ∷ []) ≡ joined d e f g h
front d e f g h = omega arith

abbrev horner : ℕ → ℕ → ℕ → ℕ → ℕ → ℕ
horner d e f g h = ((((0 * 10 + d) * 10 + e) * 10 + f) * 10 + g) * 10 + h

five_read : (bytes : List ℕ) → length bytes ≡ 5 → list_all is_ascii_digit bytes ≡ true
    → number_from (from_le_bytes w64 (lanes (bytes ++ zeros))) ≡ digits_value 10 bytes
five_read [] len all = absurd (omega arith)
five_read (d ∷ []) len all = absurd (omega arith)
five_read (d ∷ e ∷ []) len all = absurd (omega arith)
five_read (d ∷ e ∷ f ∷ []) len all = absurd (omega arith)
five_read (d ∷ e ∷ f ∷ g ∷ []) len all = absurd (omega arith)
five_read (d ∷ e ∷ f ∷ g ∷ h ∷ i ∷ more) len all = absurd (omega arith)
five_read (d ∷ e ∷ f ∷ g ∷ h ∷ []) len all =
    let pd = parts (is_ascii_digit d) (list_all is_ascii_digit (e ∷ f ∷ g ∷ h ∷ [])) all in
    let pe = parts (is_ascii_digit e) (list_all is_ascii_digit (f ∷ g ∷ h ∷ [])) pd.1 in
    let pf = parts (is_ascii_digit f) (list_all is_ascii_digit (g ∷ h ∷ [])) pe.1 in
    let pg = parts (is_ascii_digit g) (list_all is_ascii_digit (h ∷ [])) pf.1 in
    let ph = parts (is_ascii_digit h) true pg.1 in
    let vd = is_digit d pd.0 in let ve = is_digit e pe.0 in let vf = is_digit f pf.0 in let vg = is_digit g pg.0 in let vh = is_digit h ph.0 in
    ap number_from (front (less d 48) (less e 48) (less f 48) (less g 48) (less h 48))
    ∙ (λ i. number_from (joined (lane d vd.low vd.high i) (lane e ve.low ve.high i) (lane f vf.low vf.high i) (lane g vg.low vg.high i) (lane h vh.low vh.high i)))
    ∙ number_is (d - 48) (e - 48) (f - 48) (g - 48) (h - 48) (omega (arith, vd.high)) (omega (arith, ve.high)) (omega (arith, vf.high)) (omega (arith, vg.high)) (omega (arith, vh.high))
    ∙ (λ i. horner (sym vd.value i) (sym ve.value i) (sym vf.value i) (sym vg.value i) (sym vh.value i))

-- ---- what the functions answer

pub none_of_front : (bytes xs : List ℕ) → bytes ≡ xs ++ zeros → length bytes ≡ 8 → IsBytes bytes → (mask_of bytes ≡ 0 → ⊥) → None ≡ number_of xs
none_of_front bytes xs same len fits set = by (list_all is_ascii_digit xs) refl
  where
    by : (b : Bool) → list_all is_ascii_digit xs ≡ b → None ≡ cond b (Some (digits_value 10 xs)) None
    by true all =
        let every : list_all is_ascii_digit (xs ++ zeros) ≡ true = rw (list_all-append is_ascii_digit xs zeros, all) refl in
        let clear : eqb (mask_of bytes) 0 ≡ true = mask_is bytes len fits ∙ ap (list_all is_ascii_digit) same ∙ every in
        absurd (set (grind (arith, nat_tests)))
    by false some = refl

pub some_of_front : (bytes xs : List ℕ) → bytes ≡ xs ++ zeros → length bytes ≡ 8 → length xs ≡ 5 → IsBytes bytes → mask_of bytes ≡ 0
    → Some (number_from (from_le_bytes w64 (lanes bytes))) ≡ number_of xs
some_of_front bytes xs same len five fits clear =
    let every : list_all is_ascii_digit bytes ≡ true = sym (mask_is bytes len fits) ∙ ap (λ (n : ℕ). eqb n 0) clear in
    let parted : (list_all is_ascii_digit xs && list_all is_ascii_digit zeros) ≡ true = sym (list_all-append is_ascii_digit xs zeros) ∙ ap (list_all is_ascii_digit) (sym same) ∙ every in
    let all = (parts (list_all is_ascii_digit xs) (list_all is_ascii_digit zeros) parted).0 in
    ap (λ (l : List ℕ). Some (number_from (from_le_bytes w64 (lanes l)))) same ∙ rw (all, five_read xs five all) refl

rejoined : (n : ℕ) (xs : List ℕ) → take n xs ++ drop n xs ≡ xs
rejoined zero xs = refl
rejoined (suc n) [] = refl
rejoined (suc n) (x ∷ xs) = ap (λ (l : List ℕ). x ∷ l) (rejoined n xs)

-- the first five of eight, and the zeros
pub parted : (bytes : List ℕ) → drop 5 bytes ≡ zeros → bytes ≡ take 5 bytes ++ zeros
parted bytes behind = sym (rejoined 5 bytes) ∙ ap (λ (l : List ℕ). take 5 bytes ++ l) behind

fits_front : (a b c d e : ℕ) → a < 256 → b < 256 → c < 256 → d < 256 → e < 256 → (i : ℕ) → get_or (a ∷ b ∷ c ∷ d ∷ e ∷ zeros) i 0 < 256
fits_front a b c d e la lb lc ld le zero = la
fits_front a b c d e la lb lc ld le (suc zero) = lb
fits_front a b c d e la lb lc ld le (suc (suc zero)) = lc
fits_front a b c d e la lb lc ld le (suc (suc (suc zero))) = ld
fits_front a b c d e la lb lc ld le (suc (suc (suc (suc zero)))) = le
fits_front a b c d e la lb lc ld le (suc (suc (suc (suc (suc zero))))) = omega arith
fits_front a b c d e la lb lc ld le (suc (suc (suc (suc (suc (suc zero)))))) = omega arith
fits_front a b c d e la lb lc ld le (suc (suc (suc (suc (suc (suc (suc zero))))))) = omega arith
fits_front a b c d e la lb lc ld le (suc (suc (suc (suc (suc (suc (suc (suc i)))))))) = omega arith

-- the word of five bytes and the zeros
pub word_of_five : (a b c d e word : ℕ) → a < 256 → b < 256 → c < 256 → d < 256 → e < 256
    → word ≡ 3472328089260785664 + from_le_bytes w32 (a ∷ b ∷ c ∷ d ∷ []) + e * 4294967296
    → to_le_bytes w64 word ≡ a ∷ b ∷ c ∷ d ∷ e ∷ zeros
word_of_five a b c d e word la lb lc ld le is =
    le_bytes_8 (a ∷ b ∷ c ∷ d ∷ e ∷ zeros) word refl (fits_front a b c d e la lb lc ld le) (omega (arith, is))
