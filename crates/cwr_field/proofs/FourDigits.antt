-- Four digits at once, tested by what remains of them above 9.
use Rattle.std.proofs.Common.{◌≡◌, ◌∙◌, ℕ, ◌+◌, ◌-◌, ◌*◌, ◌/◌, ◌%◌, ◌^◌, ◌<◌, ◌≤◌, eqb, ltb, cond, ◌&&◌, Bool, true, false, List, [], ◌∷◌, length, map, replicate, Some, None, refl, sym, ap, arith, w8, ltb-true, ltb-false}
use Rattle.std.specs.List.{list_all}
use Rattle.std.specs.Char.{is_ascii_digit}
use Rattle.std.specs.Int.{w32, from_le_bytes}
use Rattle.std.specs.Str.Parse.{digits_value}
use Rattle.std.proofs.lemmas.Bool.Decides.{nat_tests}
use Rattle.cwr_field.specs.Number.{number_of}
use Rattle.cwr_field.proofs.EightDigits.{IsBytes, lane, less}
use Rattle.cwr_field.proofs.lemmas.DigitSteps.{is_digit}
use Rattle.cwr_field.proofs.lemmas.Tests.{parts}
use lib.Lanes.{sel_l, top, zip2}
use mir.Val.{bits, hbits}

abbrev pub lanes_of_four : List ℕ → List ℕ
lanes_of_four bytes = zip2 less bytes (replicate 4 48)

-- what remains of each lane above 9: the larger of it and 9, less 9
abbrev pub above : List ℕ → List ℕ
above xs = zip2 less (sel_l (map (top (hbits w8)) (zip2 (λ a b. cond (ltb a b) (2 ^ bits w8 - 1) 0) xs (replicate 4 9))) (replicate 4 9) xs) (replicate 4 9)

one_above : (x : ℕ) → x < 256 → less (cond (top (hbits w8) (cond (ltb x 9) (2 ^ bits w8 - 1) 0)) 9 x) 9 ≡ x - 9
one_above x lt = by (ltb x 9) refl
  where
    by : (t : Bool) → ltb x 9 ≡ t → less (cond (top (hbits w8) (cond t (2 ^ bits w8 - 1) 0)) 9 x) 9 ≡ x - 9
    by true e = omega (arith, ltb-true _ _ e)
    by false e = omega (arith, ltb-false _ _ e)

lane_lt : (b : ℕ) → less b 48 < 256
lane_lt b = omega arith

-- of a digit nothing remains, and of any other byte something
digit_test : (b : ℕ) → b < 256 → eqb (less b 48 - 9) 0 ≡ is_ascii_digit b
digit_test b lt = grind (arith, nat_tests)

both : (p rest : ℕ) → eqb (p + 256 * rest) 0 ≡ (eqb p 0 && eqb rest 0)
both p rest = grind (arith, nat_tests)

word : (p q r s : ℕ) → from_le_bytes w32 (p ∷ q ∷ r ∷ s ∷ []) ≡ p + 256 * (q + 256 * (r + 256 * (s + 256 * 0)))
word p q r s = omega arith

word_test : (p q r s : ℕ) → eqb (from_le_bytes w32 (p ∷ q ∷ r ∷ s ∷ [])) 0 ≡ (eqb p 0 && (eqb q 0 && (eqb r 0 && (eqb s 0 && true))))
word_test p q r s =
    ap (λ (n : ℕ). eqb n 0) (word p q r s)
    ∙ both p _
    ∙ ap (λ (t : Bool). eqb p 0 && t) (both q _ ∙ ap (λ (t : Bool). eqb q 0 && t) (both r _ ∙ ap (λ (t : Bool). eqb r 0 && t) (both s 0)))

pub test_is : (bytes : List ℕ) → length bytes ≡ 4 → IsBytes bytes → eqb (from_le_bytes w32 (above (lanes_of_four bytes))) 0 ≡ list_all is_ascii_digit bytes
test_is [] len fits = absurd (omega arith)
test_is (a ∷ []) len fits = absurd (omega arith)
test_is (a ∷ b ∷ []) len fits = absurd (omega arith)
test_is (a ∷ b ∷ c ∷ []) len fits = absurd (omega arith)
test_is (a ∷ b ∷ c ∷ d ∷ e ∷ more) len fits = absurd (omega arith)
test_is (a ∷ b ∷ c ∷ d ∷ []) len fits =
    (λ i. eqb (from_le_bytes w32 (one_above (less a 48) (lane_lt a) i ∷ one_above (less b 48) (lane_lt b) i ∷ one_above (less c 48) (lane_lt c) i ∷ one_above (less d 48) (lane_lt d) i ∷ [])) 0)
    ∙ word_test (less a 48 - 9) (less b 48 - 9) (less c 48 - 9) (less d 48 - 9)
    ∙ (λ i. digit_test a (fits 0) i && (digit_test b (fits 1) i && (digit_test c (fits 2) i && (digit_test d (fits 3) i && true))))

-- ---- the number

abbrev joined : ℕ → ℕ → ℕ → ℕ → ℕ
joined d e f g = d + 256 * e + 65536 * f + 16777216 * g

front_pair : (d e f g : ℕ) → d ≤ 9 → e ≤ 9 → f ≤ 9 → g ≤ 9 → joined d e f g * 2561 / 256 % 256 ≡ d * 10 + e
front_pair d e f g p q r s = omega arith

back_pair : (d e f g : ℕ) → d ≤ 9 → e ≤ 9 → f ≤ 9 → g ≤ 9 → joined d e f g * 2561 / 16777216 % 256 ≡ f * 10 + g
back_pair d e f g p q r s = omega arith

-- what is made of the four
abbrev pub number_from : ℕ → ℕ
number_from four = four * 2561 / 256 % 256 * 100 + four * 2561 / 16777216 % 256

abbrev horner : ℕ → ℕ → ℕ → ℕ → ℕ
horner d e f g = (((0 * 10 + d) * 10 + e) * 10 + f) * 10 + g

number_is : (d e f g : ℕ) → d ≤ 9 → e ≤ 9 → f ≤ 9 → g ≤ 9 → number_from (joined d e f g) ≡ horner d e f g
number_is d e f g p q r s = rw (front_pair d e f g p q r s, back_pair d e f g p q r s) (omega arith)

joined_is : (d e f g : ℕ) → from_le_bytes w32 (d ∷ e ∷ f ∷ g ∷ []) ≡ joined d e f g
joined_is d e f g = omega arith

four_read : (bytes : List ℕ) → length bytes ≡ 4 → list_all is_ascii_digit bytes ≡ true
    → number_from (from_le_bytes w32 (lanes_of_four bytes)) ≡ digits_value 10 bytes
four_read [] len all = absurd (omega arith)
four_read (d ∷ []) len all = absurd (omega arith)
four_read (d ∷ e ∷ []) len all = absurd (omega arith)
four_read (d ∷ e ∷ f ∷ []) len all = absurd (omega arith)
four_read (d ∷ e ∷ f ∷ g ∷ h ∷ more) len all = absurd (omega arith)
four_read (d ∷ e ∷ f ∷ g ∷ []) len all =
    let pd = parts (is_ascii_digit d) (list_all is_ascii_digit (e ∷ f ∷ g ∷ [])) all in
    let pe = parts (is_ascii_digit e) (list_all is_ascii_digit (f ∷ g ∷ [])) pd.1 in
    let pf = parts (is_ascii_digit f) (list_all is_ascii_digit (g ∷ [])) pe.1 in
    let pg = parts (is_ascii_digit g) true pf.1 in
    let vd = is_digit d pd.0 in let ve = is_digit e pe.0 in let vf = is_digit f pf.0 in let vg = is_digit g pg.0 in
    ap number_from (joined_is (less d 48) (less e 48) (less f 48) (less g 48))
    ∙ (λ i. number_from (joined (lane d vd.low vd.high i) (lane e ve.low ve.high i) (lane f vf.low vf.high i) (lane g vg.low vg.high i)))
    ∙ number_is (d - 48) (e - 48) (f - 48) (g - 48) (omega (arith, vd.high)) (omega (arith, ve.high)) (omega (arith, vf.high)) (omega (arith, vg.high))
    ∙ (λ i. horner (sym vd.value i) (sym ve.value i) (sym vf.value i) (sym vg.value i))

-- ---- what the function answers

pub none_of_four : (bytes : List ℕ) → length bytes ≡ 4 → IsBytes bytes → (from_le_bytes w32 (above (lanes_of_four bytes)) ≡ 0 → ⊥) → None ≡ number_of bytes
none_of_four bytes len fits some = by (list_all is_ascii_digit bytes) (test_is bytes len fits)
  where
    by : (b : Bool) → eqb (from_le_bytes w32 (above (lanes_of_four bytes))) 0 ≡ b → None ≡ cond b (Some (digits_value 10 bytes)) None
    by true e = absurd (some (let q = e in grind (arith, nat_tests)))
    by false e = refl

pub some_of_four : (bytes : List ℕ) → length bytes ≡ 4 → IsBytes bytes → from_le_bytes w32 (above (lanes_of_four bytes)) ≡ 0
    → Some (number_from (from_le_bytes w32 (lanes_of_four bytes))) ≡ number_of bytes
some_of_four bytes len fits none =
    let all : list_all is_ascii_digit bytes ≡ true = sym (test_is bytes len fits) ∙ ap (λ (n : ℕ). eqb n 0) none in
    rw (all, four_read bytes len all) refl
