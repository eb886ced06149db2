-- Signs, many at once.
use Rattle.std.proofs.Common.{◌≡◌, ◌∙◌, ℕ, zero, suc, ◌+◌, ◌-◌, ◌*◌, ◌≤◌, Bool, true, false, cond, ◌&&◌, List, [], ◌∷◌, ◌++◌, length, take, replicate, refl, sym, ap, append_assoc, arith}
use Rattle.std.specs.Prelude.{◌==◌}
use Rattle.std.proofs.lemmas.Bool.{false≢true}
use Rattle.cwr_field.specs.Layout.{is_blank}
use Rattle.cwr_record.specs.Territory.{without_trailing}
use Rattle.html_text.specs.Fragments.{fragment_text}
use Rattle.html_text.specs.Pieces.{Piece, Fixed, field_cell, field_shown, page_text, signs}
use Rattle.html_text.specs.declared.fragment.Fragment.{Fragment}
use Rattle.html_text.specs.declared.fragment.Fragment.TheVariants.{Blank}
use Rattle.html_text.proofs.lemmas.Pages.{page_append}

-- a fragment, so many times
pub fragments : (fragment : Fragment) (count : ℕ) → page_text (replicate count (Fixed fragment)) ≡ signs count (fragment_text fragment)
fragments fragment zero = refl
fragments fragment (suc count) = ap (λ (l : List ℕ). fragment_text fragment ++ l) (fragments fragment count)

joined : (sign : List ℕ) (m n : ℕ) → signs (m + n) sign ≡ signs m sign ++ signs n sign
joined sign zero n = ap (λ (k : ℕ). signs k sign) {x = 0 + n} {y = n} (omega arith)
joined sign (suc m) n =
    ap (λ (k : ℕ). signs k sign) {x = suc m + n} {y = suc (m + n)} (omega arith)
    ∙ ap (λ (l : List ℕ). sign ++ l) (joined sign m n)
    ∙ sym (append_assoc sign (signs m sign) (signs n sign))

front : (xs ys : List ℕ) (count : ℕ) → take (length xs + count) (xs ++ ys) ≡ xs ++ take count ys
front [] ys count = ap (λ (k : ℕ). take k ys) {x = 0 + count} {y = count} (omega arith)
front (x ∷ xs) ys count =
    ap (λ (k : ℕ). take k (x ∷ (xs ++ ys))) {x = suc (length xs) + count} {y = suc (length xs + count)} (omega arith)
    ∙ ap (λ (l : List ℕ). x ∷ l) (front xs ys count)

-- the first of many signs
first : (sign : List ℕ) (m n : ℕ) → length sign ≡ 2 → n ≤ m → take (n * 2) (signs m sign) ≡ signs n sign
first sign m zero two le = ap (λ (k : ℕ). take k (signs m sign)) {x = 0 * 2} {y = 0} (omega arith)
first sign zero (suc n) two le = absurd (omega arith)
first sign (suc m) (suc n) two le =
    ap (λ (k : ℕ). take k (sign ++ signs m sign)) {x = suc n * 2} {y = length sign + n * 2} (omega (arith, two))
    ∙ front sign (signs m sign) (n * 2)
    ∙ ap (λ (l : List ℕ). sign ++ l) (first sign m n two (omega arith))

-- many signs more are written
pub many_more : (out many new sign total : List ℕ) (left : ℕ) → many ≡ signs 20 sign → 20 ≤ left → new ≡ out ++ many → out ++ signs left sign ≡ total → new ++ signs (left - 20) sign ≡ total
many_more out many new sign total left is enough wrote so_far =
    ap (λ (l : List ℕ). l ++ signs (left - 20) sign) wrote
    ∙ ap (λ (l : List ℕ). (out ++ l) ++ signs (left - 20) sign) is
    ∙ append_assoc out (signs 20 sign) (signs (left - 20) sign)
    ∙ ap (λ (l : List ℕ). out ++ l) (sym (joined sign 20 (left - 20)))
    ∙ ap (λ (n : ℕ). out ++ signs n sign) {x = 20 + (left - 20)} {y = left} (omega (arith, enough))
    ∙ so_far

-- the rest of them are written
pub rest_written : (out many new sign total : List ℕ) (left : ℕ) → length sign ≡ 2 → many ≡ signs 20 sign → left ≤ 20 → new ≡ out ++ take (left * 2) many → out ++ signs left sign ≡ total → new ≡ total
rest_written out many new sign total left two is few wrote so_far =
    wrote
    ∙ ap (λ (l : List ℕ). out ++ take (left * 2) l) is
    ∙ ap (λ (l : List ℕ). out ++ l) (first sign 20 left two few)
    ∙ so_far

both : (a b : Bool) → (a && b) ≡ true → (a ≡ true) × (b ≡ true)
both true b is = (refl, is)
both false b is = absurd (false≢true is)

all_blank : (bytes : List ℕ) → is_blank bytes ≡ true → field_shown bytes ≡ replicate (length bytes) (Fixed Blank)
all_blank [] blank = refl
all_blank (byte ∷ bytes) blank =
    let parts = both (byte == 32) (is_blank bytes) blank in
    rw (parts.0, all_blank bytes parts.1) refl

apart_so : (blank : Bool) (byte : ℕ) (bytes : List ℕ) → is_blank (byte ∷ bytes) ≡ blank
    → field_shown bytes ≡ field_shown (without_trailing bytes) ++ replicate (length bytes - length (without_trailing bytes)) (Fixed Blank)
    → field_shown (byte ∷ bytes) ≡ field_shown (cond blank [] (byte ∷ without_trailing bytes)) ++ replicate (length (byte ∷ bytes) - length (cond blank [] (byte ∷ without_trailing bytes))) (Fixed Blank)
apart_so true byte bytes blank later =
    all_blank (byte ∷ bytes) blank ∙ ap (λ (n : ℕ). replicate n (Fixed Blank)) {x = suc (length bytes)} {y = suc (length bytes) - 0} (omega arith)
apart_so false byte bytes other later =
    ap (λ (l : List Piece). field_cell byte ++ l) later
    ∙ sym (append_assoc (field_cell byte) (field_shown (without_trailing bytes)) (replicate (length bytes - length (without_trailing bytes)) (Fixed Blank)))
    ∙ ap (λ (n : ℕ). field_shown (byte ∷ without_trailing bytes) ++ replicate n (Fixed Blank)) {x = length bytes - length (without_trailing bytes)} {y = suc (length bytes) - suc (length (without_trailing bytes))} (omega arith)

-- a field: its text, and the blanks behind it
apart : (bytes : List ℕ) → field_shown bytes ≡ field_shown (without_trailing bytes) ++ replicate (length bytes - length (without_trailing bytes)) (Fixed Blank)
apart [] = refl
apart (byte ∷ bytes) = apart_so (is_blank (byte ∷ bytes)) byte bytes refl (apart bytes)

-- the text of a field, whose blanks behind its text are written apart
field_blanks : (bytes : List ℕ)
    → page_text (field_shown bytes) ≡ page_text (field_shown (without_trailing bytes)) ++ page_text (replicate (length bytes - length (without_trailing bytes)) (Fixed Blank))
field_blanks bytes = ap page_text (apart bytes) ∙ page_append (field_shown (without_trailing bytes)) (replicate (length bytes - length (without_trailing bytes)) (Fixed Blank))

-- a field, whose text is written before the blanks behind it
pub field_written : (out front new bytes text : List ℕ) → text ≡ without_trailing bytes → front ≡ out ++ page_text (field_shown text)
    → new ≡ front ++ page_text (replicate (length bytes - length text) (Fixed Blank)) → new ≡ out ++ page_text (field_shown bytes)
field_written out front new bytes text is before behind =
    behind
    ∙ ap (λ (l : List ℕ). l ++ page_text (replicate (length bytes - length text) (Fixed Blank))) before
    ∙ append_assoc out (page_text (field_shown text)) (page_text (replicate (length bytes - length text) (Fixed Blank)))
    ∙ ap (λ (t : List ℕ). out ++ (page_text (field_shown t) ++ page_text (replicate (length bytes - length t) (Fixed Blank)))) is
    ∙ ap (λ (l : List ℕ). out ++ l) (sym (field_blanks bytes))
