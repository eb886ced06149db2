-- What stands in a text of JSON for bytes.
use Rattle.std.proofs.Common.{◌≡◌, ◌∙◌, ℕ, ◌+◌, ◌/◌, ◌%◌, ◌<◌, ◌≤◌, Bool, true, false, cond, List, [], ◌∷◌, ◌++◌, length, get_or, take, drop, Some, None, suc, refl, sym, ap, ap₂, arith, lt-ltb, le-ltb, ltb-false, ne_eqb, append_assoc, append-nil}
use Rattle.std.specs.Prelude.{nat_lt, not, ◌||◌, ◌==◌}
use Rattle.std.specs.Char.{digit_char, encode_utf8}
use Rattle.std.specs.List.{position, position_or_len}
use Rattle.std.proofs.lemmas.Grind.{flat_map-append}
use Rattle.std.proofs.lemmas.List.{take_all, drop_all, drop_more}
use Rattle.std.proofs.lemmas.Str.{encode_ascii}
use Rattle.json.specs.Print.{escape_letter, escape_byte, escape}
use Rattle.report_json.specs.Json.{latin}
use Rattle.report_json.specs.JsonText.{is_changed}

pub by_letter : (x l : ℕ) → l ≡ escape_letter x → 0 < l → escape_byte x ≡ 92 ∷ l ∷ []
unfolding escape_byte
by_letter x l is h =
    ap (λ (m : ℕ). cond (nat_lt 0 m) (92 ∷ m ∷ []) (cond (nat_lt x 32) (92 ∷ 117 ∷ 48 ∷ 48 ∷ digit_char (x / 16) ∷ digit_char (x % 16) ∷ []) (x ∷ []))) (sym is)
    ∙ ap (λ (b : Bool). cond b (92 ∷ l ∷ []) (cond (nat_lt x 32) (92 ∷ 117 ∷ 48 ∷ 48 ∷ digit_char (x / 16) ∷ digit_char (x % 16) ∷ []) (x ∷ []))) (lt-ltb 0 l h)

no_letter : (x l : ℕ) → l ≡ escape_letter x → l ≤ 0 → escape_byte x ≡ cond (nat_lt x 32) (92 ∷ 117 ∷ 48 ∷ 48 ∷ digit_char (x / 16) ∷ digit_char (x % 16) ∷ []) (x ∷ [])
unfolding escape_byte
no_letter x l is h =
    ap (λ (m : ℕ). cond (nat_lt 0 m) (92 ∷ m ∷ []) (cond (nat_lt x 32) (92 ∷ 117 ∷ 48 ∷ 48 ∷ digit_char (x / 16) ∷ digit_char (x % 16) ∷ []) (x ∷ []))) (sym is)
    ∙ ap (λ (b : Bool). cond b (92 ∷ l ∷ []) (cond (nat_lt x 32) (92 ∷ 117 ∷ 48 ∷ 48 ∷ digit_char (x / 16) ∷ digit_char (x % 16) ∷ []) (x ∷ []))) (le-ltb 0 l h)

pub by_digits : (x l : ℕ) → l ≡ escape_letter x → l ≤ 0 → x < 32 → escape_byte x ≡ 92 ∷ 117 ∷ 48 ∷ 48 ∷ digit_char (x / 16) ∷ digit_char (x % 16) ∷ []
by_digits x l is h low =
    no_letter x l is h ∙ ap (λ (b : Bool). cond b (92 ∷ 117 ∷ 48 ∷ 48 ∷ digit_char (x / 16) ∷ digit_char (x % 16) ∷ []) (x ∷ [])) (lt-ltb x 32 low)

pub by_itself : (x l : ℕ) → l ≡ escape_letter x → l ≤ 0 → 32 ≤ x → escape_byte x ≡ x ∷ []
by_itself x l is h high =
    no_letter x l is h ∙ ap (λ (b : Bool). cond b (92 ∷ 117 ∷ 48 ∷ 48 ∷ digit_char (x / 16) ∷ digit_char (x % 16) ∷ []) (x ∷ [])) (le-ltb x 32 high)

pub plain : (x : ℕ) → (x == 34) ≡ false → (x == 92) ≡ false → 32 ≤ x → escape_byte x ≡ x ∷ []
plain x q b high =
    by_itself x 0 (rw (q, b, ne_eqb x 8 (λ e. omega arith), ne_eqb x 12 (λ e. omega arith), ne_eqb x 10 (λ e. omega arith), ne_eqb x 13 (λ e. omega arith), ne_eqb x 9 (λ e. omega arith)) refl)
    (omega arith) high

high_is_plain : (x : ℕ) → 127 < x → escape_byte x ≡ x ∷ []
high_is_plain x h = plain x (ne_eqb x 34 (λ e. omega arith)) (ne_eqb x 92 (λ e. omega arith)) (omega arith)

-- the two bytes of a character above 127 stand for themselves
pub wide : (x : ℕ) → 127 < x → x < 256 → escape (encode_utf8 x) ≡ encode_utf8 x
unfolding encode_utf8
wide x h small =
    rw (le-ltb x 128 (omega arith), lt-ltb x 2048 (omega arith), high_is_plain (192 + x / 64) (omega arith), high_is_plain (128 + x % 64) (omega arith)) refl

parts : (a b c d : Bool) → (a || b || c || d) ≡ false → (a ≡ false) × (b ≡ false) × (c ≡ false) × (d ≡ false)
parts true b c d h = absurd cc
parts false true c d h = absurd cc
parts false false true d h = absurd cc
parts false false false d h = (refl, refl, refl, h)

-- a byte that is not changed
unchanged : (x : ℕ) → is_changed x ≡ false → escape (encode_utf8 x) ≡ x ∷ []
unchanged x same =
    let p = parts (nat_lt x 32) (x == 34) (x == 92) (nat_lt 127 x) same in
    let low : x < 128 = let top : x ≤ 127 = ltb-false 127 x p.3 in omega (arith, top) in
    rw (encode_ascii x low) (ap (λ (l : List ℕ). l ++ []) (plain x p.1 p.2 (ltb-false x 32 p.0)))

step : (b : Bool) (x n : ℕ) (xs : List ℕ) → b ≡ is_changed x → escape (latin xs) ≡ take n xs ++ escape (latin (drop n xs))
    → escape (latin (x ∷ xs)) ≡ take (cond (not b) (1 + n) 0) (x ∷ xs) ++ escape (latin (drop (cond (not b) (1 + n) 0) (x ∷ xs)))
step true x n xs is so_far = refl
step false x n xs is so_far =
    let next : suc n ≡ 1 + n = omega arith in
    flat_map-append escape_byte (encode_utf8 x) (latin xs)
    ∙ ap₂ (λ (a b : List ℕ). a ++ b) (unchanged x (sym is)) so_far
    ∙ ap (λ (k : ℕ). take k (x ∷ xs) ++ escape (latin (drop k (x ∷ xs)))) next

-- those before the first that is changed stand for themselves
run : (xs : List ℕ) → escape (latin xs) ≡ take (position_or_len is_changed xs) xs ++ escape (latin (drop (position_or_len is_changed xs) xs))
run [] = refl
run (x ∷ xs) = step (is_changed x) x (position_or_len is_changed xs) xs refl (run xs)

found : (b : Bool) (n i : ℕ) → cond b (Some n) None ≡ Some i → i ≡ n
found true n i h = cc
found false n i h = absurd cc

none : (b : Bool) (n : ℕ) → cond b (Some n) None ≡ None → b ≡ false
none true n h = absurd cc
none false n h = refl

-- a byte that is changed, with those before it and after it
pub changed_at : (xs : List ℕ) (i : ℕ) → i < length xs → position is_changed xs ≡ Some i
    → escape (latin xs) ≡ take i xs ++ (escape (encode_utf8 (get_or xs i 0)) ++ escape (latin (drop (i + 1) xs)))
changed_at xs i inside h =
    let is : i ≡ position_or_len is_changed xs = found (nat_lt (position_or_len is_changed xs) (length xs)) (position_or_len is_changed xs) i h in
    run xs
    ∙ ap (λ (k : ℕ). take k xs ++ escape (latin (drop k xs))) (sym is)
    ∙ ap (λ (l : List ℕ). take i xs ++ escape (latin l)) (drop_more xs i 0 inside)
    ∙ ap (λ (l : List ℕ). take i xs ++ l) (flat_map-append escape_byte (encode_utf8 (get_or xs i 0)) (latin (drop (i + 1) xs)))

-- no byte is changed
pub none_changed : (xs : List ℕ) → position is_changed xs ≡ None → escape (latin xs) ≡ xs
none_changed xs h =
    let n = position_or_len is_changed xs in
    let all : length xs ≤ n = ltb-false n (length xs) (none (nat_lt n (length xs)) n h) in
    run xs
    ∙ ap₂ (λ (a b : List ℕ). a ++ escape (latin b)) (take_all n xs all) (drop_all n xs all)
    ∙ append-nil xs

-- one that is changed, and those before it, are written
pub moved_on : (out mid new rest : List ℕ) (i : ℕ) (left total : List ℕ) → i < length rest → position is_changed rest ≡ Some i
    → mid ≡ out ++ take i rest → new ≡ mid ++ escape (encode_utf8 (get_or rest i 0)) → left ≡ drop (i + 1) rest
    → out ++ escape (latin rest) ≡ total → new ++ escape (latin left) ≡ total
moved_on out mid new rest i left total inside first wrote changed is so_far =
    let c = escape (encode_utf8 (get_or rest i 0)) in
    let later = escape (latin (drop (i + 1) rest)) in
    ap₂ (λ (a b : List ℕ). a ++ escape (latin b)) (changed ∙ ap (λ (l : List ℕ). l ++ c) wrote) is
    ∙ append_assoc (out ++ take i rest) c later
    ∙ append_assoc out (take i rest) (c ++ later)
    ∙ ap (λ (l : List ℕ). out ++ l) (sym (changed_at rest i inside first))
    ∙ so_far
