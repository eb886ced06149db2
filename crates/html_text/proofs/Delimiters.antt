-- What of a page can be markup.
use Rattle.std.proofs.Common.{◌≡◌, ◌∙◌, ℕ, zero, suc, ◌+◌, ◌/◌, ◌%◌, ◌<◌, ◌≤◌, Bool, true, false, cond, List, [], ◌∷◌, ◌++◌, refl, sym, ap, arith, ne_eqb, ltb-true, ltb-false, codes}
use Rattle.std.specs.Prelude.{◌==◌, ◌||◌, nat_lt}
use Rattle.std.specs.List.{filter, list_any}
use Rattle.std.specs.Fmt.{decimal, digit_glyph, digits, digits_onto}
use Rattle.std.proofs.Math.Bool.{or-true}
use Rattle.std.proofs.lemmas.Bool.{false≢true}
use Rattle.std.proofs.lemmas.List.Elements.{filter-append}
use Rattle.html_text.specs.Fragments.{fragment_text}
use Rattle.html_text.specs.Markup.{is_delimiter, is_reference, is_plain, is_fixed}
use Rattle.html_text.specs.Pieces.{Piece, Fixed, Number, Byte, Hex, piece_text, page_text}

-- the byte begins or ends something
abbrev begins : ℕ → Bool
begins byte = is_delimiter byte || (byte == 38)

digit : (b : ℕ) → 48 ≤ b → b ≤ 57 → begins b ≡ false
digit b low high =
    rw (ne_eqb b 34 (λ e. omega arith), ne_eqb b 39 (λ e. omega arith), ne_eqb b 60 (λ e. omega arith), ne_eqb b 62 (λ e. omega arith), ne_eqb b 38 (λ e. omega arith)) refl

letter : (b : ℕ) → 62 < b → begins b ≡ false
letter b high =
    rw (ne_eqb b 34 (λ e. omega arith), ne_eqb b 39 (λ e. omega arith), ne_eqb b 60 (λ e. omega arith), ne_eqb b 62 (λ e. omega arith), ne_eqb b 38 (λ e. omega arith)) refl

glyph_at : (b : Bool) (d : ℕ) → nat_lt d 10 ≡ b → begins (cond b (48 + d) (87 + d)) ≡ false
glyph_at true d is = let low : d < 10 = ltb-true d 10 is in digit (48 + d) (omega arith) (omega arith)
glyph_at false d is = letter (87 + d) (omega arith)

either : (b : Bool) (xs ys : List ℕ) → list_any begins xs ≡ false → list_any begins ys ≡ false → list_any begins (cond b xs ys) ≡ false
either true xs ys here there = here
either false xs ys here there = there

-- digits before bytes of which none begins or ends anything
onto : (k n : ℕ) (ds : List ℕ) → list_any begins ds ≡ false → list_any begins (digits_onto k 10 false n ds) ≡ false
onto zero n ds none = none
onto (suc k) n ds none =
    let more : list_any begins (digit_glyph false (n % 10) ∷ ds) ≡ false = rw (glyph_at (nat_lt (n % 10) 10) (n % 10) refl) none in
    either (n / 10 == 0) (digit_glyph false (n % 10) ∷ ds) (digits_onto k 10 false (n / 10) (digit_glyph false (n % 10) ∷ ds)) more (onto k (n / 10) (digit_glyph false (n % 10) ∷ ds) more)

number : (n : ℕ) → list_any begins (decimal n) ≡ false
unfolding digits
number n = onto 64 n [] refl

hex_at : (b : Bool) (d : ℕ) → nat_lt d 10 ≡ b → begins (cond b (48 + d) (55 + d)) ≡ false
hex_at true d is = let low : d < 10 = ltb-true d 10 is in digit (48 + d) (omega arith) (omega arith)
hex_at false d is = let high : 10 ≤ d = ltb-false d 10 is in letter (55 + d) (omega arith)

hex : (b : ℕ) → list_any begins (piece_text (Hex b)) ≡ false
hex b = rw (hex_at (nat_lt (b / 16) 10) (b / 16) refl, hex_at (nat_lt (b % 16) 10) (b % 16) refl) refl

neither : (a b : Bool) → (a || b) ≡ false → (a ≡ false) × (b ≡ false)
neither true b is = absurd (false≢true (sym is))
neither false b is = (refl, is)

-- among bytes of which none begins or ends anything is no delimiter
none_begins : (xs : List ℕ) → list_any begins xs ≡ false → filter is_delimiter xs ≡ []
none_begins [] none = refl
none_begins (x ∷ xs) none =
    let parts = neither (begins x) (list_any begins xs) none in
    let this = neither (is_delimiter x) (x == 38) parts.0 in
    rw this.0 (none_begins xs parts.1)

plain : (xs : List ℕ) → list_any begins xs ≡ false → (is_reference xs || is_plain xs) ≡ true
plain xs none = rw none (or-true (is_reference xs))

-- a byte as text: `q` to `g` say whether it is one of the five
abbrev told : Bool → Bool → Bool → Bool → Bool → ℕ → List ℕ
told q a s l g b =
    cond q (codes "&quot;") (cond a (codes "&amp;") (cond s (codes "&#39;") (cond l (codes "&lt;") (cond g (codes "&gt;") (b ∷ [])))))

byte_told : (q a s l g : Bool) (b : ℕ) → (b == 34) ≡ q → (b == 38) ≡ a → (b == 39) ≡ s → (b == 60) ≡ l → (b == 62) ≡ g
    → ((is_reference (told q a s l g b) || is_plain (told q a s l g b)) ≡ true) × (filter is_delimiter (told q a s l g b) ≡ [])
byte_told true a s l g b h34 h38 h39 h60 h62 = (refl, refl)
byte_told false true s l g b h34 h38 h39 h60 h62 = (refl, refl)
byte_told false false true l g b h34 h38 h39 h60 h62 = (refl, refl)
byte_told false false false true g b h34 h38 h39 h60 h62 = (refl, refl)
byte_told false false false false true b h34 h38 h39 h60 h62 = (refl, refl)
byte_told false false false false false b h34 h38 h39 h60 h62 =
    let none : list_any begins (b ∷ []) ≡ false = rw (h34, h39, h60, h62, h38) refl in
    (plain (b ∷ []) none, none_begins (b ∷ []) none)

-- a piece that is no markup
pub piece : (p : Piece) → is_fixed p ≡ false → ((is_reference (piece_text p) || is_plain (piece_text p)) ≡ true) × (filter is_delimiter (piece_text p) ≡ [])
piece (Fixed fragment) other = absurd (false≢true (sym other))
piece (Number n) other = let none = number n in (plain (decimal n) none, none_begins (decimal n) none)
piece (Byte b) other = byte_told (b == 34) (b == 38) (b == 39) (b == 60) (b == 62) b refl refl refl refl refl
piece (Hex b) other = let none = hex b in (plain (piece_text (Hex b)) none, none_begins (piece_text (Hex b)) none)

-- a piece before others
other_first : (p : Piece) (ps : List Piece) → is_fixed p ≡ false
    → filter is_delimiter (page_text ps) ≡ filter is_delimiter (page_text (filter is_fixed ps))
    → filter is_delimiter (page_text (p ∷ ps)) ≡ filter is_delimiter (page_text (filter is_fixed ps))
other_first p ps other so_far =
    let none = piece p other in
    filter-append is_delimiter (piece_text p) (page_text ps) ∙ ap (λ (l : List ℕ). l ++ filter is_delimiter (page_text ps)) none.1 ∙ so_far

-- the delimiters of a page are those of its markup
pub delimiters : (page : List Piece) → filter is_delimiter (page_text page) ≡ filter is_delimiter (page_text (filter is_fixed page))
delimiters [] = refl
delimiters (Fixed fragment ∷ ps) =
    filter-append is_delimiter (fragment_text fragment) (page_text ps)
    ∙ ap (λ (l : List ℕ). filter is_delimiter (fragment_text fragment) ++ l) (delimiters ps)
    ∙ sym (filter-append is_delimiter (fragment_text fragment) (page_text (filter is_fixed ps)))
delimiters (Number n ∷ ps) = other_first (Number n) ps refl (delimiters ps)
delimiters (Byte b ∷ ps) = other_first (Byte b) ps refl (delimiters ps)
delimiters (Hex b ∷ ps) = other_first (Hex b) ps refl (delimiters ps)
