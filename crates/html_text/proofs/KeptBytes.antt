-- Bytes that are shown as themselves.
use Rattle.std.proofs.Common.{◌≡◌, ◌∙◌, ◌<◌, ℕ, suc, Bool, true, false, List, [], ◌∷◌, ◌++◌, length, get_or, refl, sym, ap, ap₂, arith}
use Rattle.std.specs.Prelude.{nat_lt, ◌==◌, ◌||◌}
use Rattle.std.proofs.lemmas.Bool.{false≢true}
use Rattle.cwr_field.specs.Shown.{is_unprinted}
use Rattle.html_text.specs.Pieces.{Byte, byte_text, cell, field_cell, field_shown, is_changed, page_text, shown, text_pieces, IsSeen}
use Rattle.html_text.proofs.lemmas.Pages.{page_append}

-- a byte that no test tells
pub kept : (x : ℕ) → nat_lt x 32 ≡ false → nat_lt 126 x ≡ false → (x == 34) ≡ false → (x == 38) ≡ false → (x == 39) ≡ false → (x == 60) ≡ false → (x == 62) ≡ false
    → is_changed x ≡ false
kept x a b q r s l g = rw (a, b, q, r, s, l, g) refl

-- none of six
record AreFalse (u q r s l g : Bool) : Type 0 where
  first : u ≡ false
  second : q ≡ false
  third : r ≡ false
  fourth : s ≡ false
  fifth : l ≡ false
  sixth : g ≡ false

none : (u q r s l g : Bool) → (u || q || r || s || l || g) ≡ false → AreFalse u q r s l g
none true q r s l g is = absurd (false≢true (sym is))
none false true r s l g is = absurd (false≢true (sym is))
none false false true s l g is = absurd (false≢true (sym is))
none false false false true l g is = absurd (false≢true (sym is))
none false false false false true g is = absurd (false≢true (sym is))
none false false false false false g is = record { first = refl; second = refl; third = refl; fourth = refl; fifth = refl; sixth = is }

-- what stands for a byte that is not changed
itself : (x : ℕ) → is_changed x ≡ false → byte_text x ≡ x ∷ []
itself x is =
    let all = none (is_unprinted x) (x == 34) (x == 38) (x == 39) (x == 60) (x == 62) is in
    rw (all.second, all.third, all.fourth, all.fifth, all.sixth) refl

in_cell : (x : ℕ) → is_changed x ≡ false → cell x ≡ Byte x ∷ []
in_cell x is =
    let all = none (is_unprinted x) (x == 34) (x == 38) (x == 39) (x == 60) (x == 62) is in
    rw all.first refl

-- bytes of a text of which none is changed
pub text_kept : (xs : List ℕ) → ((k : ℕ) → k < length xs → is_changed (get_or xs k 0) ≡ false) → page_text (text_pieces xs) ≡ xs
text_kept [] each = refl
text_kept (x ∷ xs) each =
    ap₂ (λ (a b : List ℕ). a ++ b) (itself x (each 0 (omega arith))) (text_kept xs (λ k lt. each (suc k) (omega (arith, lt))))

-- bytes of a line of which none is changed
pub shown_kept : (xs : List ℕ) → ((k : ℕ) → k < length xs → is_changed (get_or xs k 0) ≡ false) → page_text (shown xs) ≡ xs
shown_kept [] each = refl
shown_kept (x ∷ xs) each =
    page_append (cell x) (shown xs)
    ∙ ap (λ ps. page_text ps ++ page_text (shown xs)) (in_cell x (each 0 (omega arith)))
    ∙ ap₂ (λ (a b : List ℕ). (a ++ []) ++ b) (itself x (each 0 (omega arith))) (shown_kept xs (λ k lt. each (suc k) (omega (arith, lt))))

in_field : (x : ℕ) → IsSeen x → field_cell x ≡ Byte x ∷ []
in_field x seen = rw seen.other (in_cell x seen.kept)

-- bytes of a marked field, each of which is seen
pub field_kept : (xs : List ℕ) → ((k : ℕ) → k < length xs → IsSeen (get_or xs k 0)) → page_text (field_shown xs) ≡ xs
field_kept [] each = refl
field_kept (x ∷ xs) each =
    page_append (field_cell x) (field_shown xs)
    ∙ ap (λ ps. page_text ps ++ page_text (field_shown xs)) (in_field x (each 0 (omega arith)))
    ∙ ap₂ (λ (a b : List ℕ). (a ++ []) ++ b) (itself x (each 0 (omega arith)).kept) (field_kept xs (λ k lt. each (suc k) (omega (arith, lt))))
