-- Texts without control bytes.
use Rattle.std.proofs.Common.{◌≡◌, ℕ, zero, suc, ◌-◌, true, leb, List, [], ◌∷◌, ◌++◌, length, take, drop, replicate, refl}
use Rattle.cwr_field.specs.Layout.{field, padded, min_printable, is_printable}
use Rattle.cwr_field.proofs.lemmas.Tests.{both, parts}

pub printable-append : (xs ys : List ℕ) → is_printable xs ≡ true → is_printable ys ≡ true → is_printable (xs ++ ys) ≡ true
printable-append [] ys h k = k
printable-append (x ∷ xs) ys h k =
    let p = parts (leb min_printable x) (is_printable xs) h in both (leb min_printable x) (is_printable (xs ++ ys)) p.0 (printable-append xs ys p.1 k)

pub printable-take : (n : ℕ) (xs : List ℕ) → is_printable xs ≡ true → is_printable (take n xs) ≡ true
printable-take zero xs h = refl
printable-take (suc n) [] h = refl
printable-take (suc n) (x ∷ xs) h =
    let p = parts (leb min_printable x) (is_printable xs) h in both (leb min_printable x) (is_printable (take n xs)) p.0 (printable-take n xs p.1)

pub printable-drop : (n : ℕ) (xs : List ℕ) → is_printable xs ≡ true → is_printable (drop n xs) ≡ true
printable-drop zero xs h = h
printable-drop (suc n) [] h = refl
printable-drop (suc n) (x ∷ xs) h = printable-drop n xs (parts (leb min_printable x) (is_printable xs) h).1

pub printable-blanks : (n : ℕ) → is_printable (replicate n 32) ≡ true
printable-blanks zero = refl
printable-blanks (suc n) = printable-blanks n

-- a field of a line without control bytes has none
pub printable-field : (line : List ℕ) (start n : ℕ) → is_printable line ≡ true → is_printable (field line start n) ≡ true
printable-field line start n h =
    printable-take n (drop (start - 1) line ++ replicate n 32)
    (printable-append (drop (start - 1) line) (replicate n 32) (printable-drop (start - 1) line h) (printable-blanks n))

-- nor has a text that is filled with blanks
pub printable-padded : (width : ℕ) (text : List ℕ) → is_printable text ≡ true → is_printable (padded width text) ≡ true
printable-padded width text h = printable-append text (replicate (width - length text) 32) h (printable-blanks (width - length text))
