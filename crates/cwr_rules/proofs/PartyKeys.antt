-- Two interested party numbers have the same key exactly where they are the same nine bytes.
use Rattle.std.proofs.Common.{◌≡◌, ℕ, ◌<◌, Bool, true, false, zero, suc, List, [], ◌∷◌, ◌++◌, length, take, refl, sym, ap, subst, ◌∙◌, arith, nat_cmp, is_eq}
use Rattle.std.specs.Prelude.{get_or}
use Rattle.std.specs.Int.{w64, from_be_bytes, to_be_bytes}
use Rattle.std.specs.Ordering.{ordering_then}
use Rattle.std.specs.Str.{bytes_eq}
use Rattle.std.proofs.Math.Seq.{take-length}
use Rattle.std.proofs.lemmas.Bool.Decides.{nat_tests}
use Rattle.std.proofs.lemmas.List.{length-take-le, take_more}
use Rattle.std.proofs.lemmas.Nat.{be_bytes_8}
use Rattle.std.proofs.lemmas.Slice.Eq.{bytes_eq-Decides}
use Rattle.cwr_rules.specs.Parties.{key_of, key_cmp, IsNumber}

whole : (p : List ℕ) → length p ≡ 9 → p ≡ take 8 p ++ get_or p 8 0 ∷ []
whole p nine = sym (take-length p) ∙ ap (λ (n : ℕ). take n p) nine ∙ take_more p 8 0 (omega (arith, nine))

small : (n : ℕ) (p : List ℕ) → ((i : ℕ) → get_or p i 0 < 256) → (i : ℕ) → get_or (take n p) i 0 < 256
small zero p h i = omega arith
small (suc n) [] h i = omega arith
small (suc n) (x ∷ p) h zero = h 0
small (suc n) (x ∷ p) h (suc i) = small n p (λ j. h (suc j)) i

front : (p : List ℕ) → IsNumber p → to_be_bytes w64 (from_be_bytes w64 (take 8 p)) ≡ take 8 p
front p is = be_bytes_8 (take 8 p) (from_be_bytes w64 (take 8 p)) (length-take-le 8 p (omega (arith, is.nine))) (small 8 p is.bytes) refl

same_bytes : (p q : List ℕ) → IsNumber p → IsNumber q → from_be_bytes w64 (take 8 p) ≡ from_be_bytes w64 (take 8 q) → get_or p 8 0 ≡ get_or q 8 0 → p ≡ q
same_bytes p q a b first last =
    let fronts : take 8 p ≡ take 8 q = sym (front p a) ∙ ap (λ (n : ℕ). to_be_bytes w64 n) first ∙ front q b in
    whole p a.nine ∙ ap (λ (xs : List ℕ). xs ++ get_or p 8 0 ∷ []) fronts ∙ ap (λ (x : ℕ). take 8 q ++ x ∷ []) last ∙ sym (whole q b.nine)

tied : (a b c d : ℕ) → is_eq (ordering_then (nat_cmp a b) (nat_cmp c d)) ≡ true → (a ≡ b) × (c ≡ d)
tied a b c d e = grind (arith, nat_tests)

tie : (a b : ℕ) → is_eq (ordering_then (nat_cmp a a) (nat_cmp b b)) ≡ true
tie a b = grind (arith, nat_tests)

both : (s t : Bool) → (s ≡ true → t ≡ true) → (t ≡ true → s ≡ true) → s ≡ t
both true true to from = refl
both false false to from = refl
both true false to from = sym (to refl)
both false true to from = from refl

pub same_key : (p q : List ℕ) → IsNumber p → IsNumber q → is_eq (key_cmp (key_of p) (key_of q)) ≡ bytes_eq p q
same_key p q a b =
    let decides = bytes_eq-Decides p q in
    let P : List ℕ → Type 0 = λ x. is_eq (key_cmp (key_of p) (key_of x)) ≡ true in
    both (is_eq (key_cmp (key_of p) (key_of q))) (bytes_eq p q)
    (λ e. let parts = tied (key_of p).0 (key_of q).0 (key_of p).1 (key_of q).1 e in decides.1 (same_bytes p q a b parts.0 parts.1))
    (λ e. subst P (decides.0 e) (tie (key_of p).0 (key_of p).1))
