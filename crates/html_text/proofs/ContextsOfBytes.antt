-- Pieces are read as their bytes are.
use Rattle.std.proofs.Common.{◌≡◌, ◌∙◌, ℕ, Bool, true, false, cond, List, [], ◌∷◌, ◌++◌, refl, sym, ap}
use Rattle.std.specs.Prelude.{◌==◌, ◌||◌}
use Rattle.std.specs.List.{filter}
use Rattle.std.proofs.lemmas.Bool.{false≢true}
use Rattle.html_text.specs.Contexts.{Context, Text, Name, Tag, Quoted, Style, StyleQuoted, Wanted, Misplaced, behind, behind_byte, behind_bytes, behind_piece, is_rule_letter}
use Rattle.html_text.specs.Markup.{is_delimiter}
use Rattle.html_text.specs.Pieces.{Piece, Fixed, Number, Byte, Hex, page_text, piece_text}
use Rattle.html_text.proofs.Delimiters.{piece}

append : (c : Context) (xs ys : List ℕ) → behind_bytes c (xs ++ ys) ≡ behind_bytes (behind_bytes c xs) ys
append c [] ys = refl
append c (x ∷ xs) ys = append (behind_byte c x) xs ys

none : (a b c d : Bool) → (a || b || c || d) ≡ false → (a ≡ false) × (b ≡ false) × (c ≡ false) × (d ≡ false)
none true b c d is = absurd (false≢true (sym is))
none false true c d is = absurd (false≢true (sym is))
none false false true d is = absurd (false≢true (sym is))
none false false false true is = absurd (false≢true (sym is))
none false false false false is = (refl, refl, refl, refl)

some≢none : (x : ℕ) (xs : List ℕ) → x ∷ xs ≡ [] → ⊥
some≢none x xs is = false≢true (ap (λ (l : List ℕ). elim l as (λ k. Bool) [ [] ↦ true | ◌∷◌ y ys ↦ false ]) is)

-- the first byte is no delimiter, and so are those behind it
first : (so : Bool) (x : ℕ) (xs : List ℕ) → cond so (x ∷ filter is_delimiter xs) (filter is_delimiter xs) ≡ [] → (so ≡ false) × (filter is_delimiter xs ≡ [])
first true x xs is = absurd (some≢none x (filter is_delimiter xs) is)
first false x xs is = (refl, is)

in_text : (l : List ℕ) → filter is_delimiter l ≡ [] → behind_bytes Text l ≡ Text
in_text [] plain = refl
in_text (x ∷ xs) plain =
    let parts = first (is_delimiter x) x xs plain in
    let other = none (x == 34) (x == 39) (x == 60) (x == 62) parts.0 in
    let this : behind_byte Text x ≡ Text = rw other.2 refl in
    ap (λ (c : Context). behind_bytes c xs) this ∙ in_text xs parts.1

in_quotes : (l : List ℕ) → filter is_delimiter l ≡ [] → behind_bytes Quoted l ≡ Quoted
in_quotes [] plain = refl
in_quotes (x ∷ xs) plain =
    let parts = first (is_delimiter x) x xs plain in
    let other = none (x == 34) (x == 39) (x == 60) (x == 62) parts.0 in
    let this : behind_byte Quoted x ≡ Quoted = rw (other.0, other.2, other.3) refl in
    ap (λ (c : Context). behind_bytes c xs) this ∙ in_quotes xs parts.1

in_style : (l : List ℕ) → filter is_delimiter l ≡ [] → behind_bytes StyleQuoted l ≡ StyleQuoted
in_style [] plain = refl
in_style (x ∷ xs) plain =
    let parts = first (is_delimiter x) x xs plain in
    let other = none (x == 34) (x == 39) (x == 60) (x == 62) parts.0 in
    let this : behind_byte StyleQuoted x ≡ StyleQuoted = rw (other.0, other.2) refl in
    ap (λ (c : Context). behind_bytes c xs) this ∙ in_style xs parts.1

-- between quotes: `so` says whether the byte is the letter of a rule
letter : (so : Bool) (b : ℕ) → (cond so Quoted Misplaced ≡ Misplaced → ⊥) → behind_bytes Quoted (piece_text (Byte b)) ≡ cond so Quoted Misplaced
letter true b placed = in_quotes (piece_text (Byte b)) (piece (Byte b) refl).1
letter false b placed = absurd (placed refl)

one : (c : Context) (p : Piece) → (behind_piece c p ≡ Misplaced → ⊥) → behind_bytes c (piece_text p) ≡ behind_piece c p
one c (Fixed fragment) placed = refl
one Text (Number n) placed = in_text (piece_text (Number n)) (piece (Number n) refl).1
one Text (Byte b) placed = in_text (piece_text (Byte b)) (piece (Byte b) refl).1
one Text (Hex b) placed = in_text (piece_text (Hex b)) (piece (Hex b) refl).1
one Quoted (Number n) placed = in_quotes (piece_text (Number n)) (piece (Number n) refl).1
one Quoted (Byte b) placed = letter (is_rule_letter b) b placed
one Quoted (Hex b) placed = absurd (placed refl)
one StyleQuoted (Number n) placed = in_style (piece_text (Number n)) (piece (Number n) refl).1
one StyleQuoted (Byte b) placed = absurd (placed refl)
one StyleQuoted (Hex b) placed = absurd (placed refl)
one (Name name) (Number n) placed = absurd (placed refl)
one (Name name) (Byte b) placed = absurd (placed refl)
one (Name name) (Hex b) placed = absurd (placed refl)
one Tag (Number n) placed = absurd (placed refl)
one Tag (Byte b) placed = absurd (placed refl)
one Tag (Hex b) placed = absurd (placed refl)
one Style (Number n) placed = absurd (placed refl)
one Style (Byte b) placed = absurd (placed refl)
one Style (Hex b) placed = absurd (placed refl)
one (Wanted bytes) (Number n) placed = absurd (placed refl)
one (Wanted bytes) (Byte b) placed = absurd (placed refl)
one (Wanted bytes) (Hex b) placed = absurd (placed refl)
one Misplaced (Number n) placed = absurd (placed refl)
one Misplaced (Byte b) placed = absurd (placed refl)
one Misplaced (Hex b) placed = absurd (placed refl)

-- nothing finds its place behind what is misplaced
lost_bytes : (l : List ℕ) → behind_bytes Misplaced l ≡ Misplaced
lost_bytes [] = refl
lost_bytes (b ∷ bs) = lost_bytes bs

lost : (ps : List Piece) → behind Misplaced ps ≡ Misplaced
lost [] = refl
lost (Fixed fragment ∷ ps) = ap (λ (c : Context). behind c ps) (lost_bytes (piece_text (Fixed fragment))) ∙ lost ps
lost (Number n ∷ ps) = lost ps
lost (Byte b ∷ ps) = lost ps
lost (Hex b ∷ ps) = lost ps

pub read : (c : Context) (ps : List Piece) → (behind c ps ≡ Misplaced → ⊥) → behind_bytes c (page_text ps) ≡ behind c ps
read c [] placed = refl
read c (p ∷ ps) placed =
    append c (piece_text p) (page_text ps)
    ∙ ap (λ (k : Context). behind_bytes k (page_text ps)) (one c p (λ is. placed (ap (λ (k : Context). behind k ps) is ∙ lost ps)))
    ∙ read (behind_piece c p) ps placed
