-- The marks of a line: none begins within another, and each ends.
use Rattle.std.proofs.Common.{◌≡◌, ◌∙◌, ℕ, zero, suc, ◌+◌, ◌-◌, ◌<◌, Bool, true, false, cond, not, ◌&&◌, ◌||◌, List, [], ◌∷◌, ◌++◌, length, get_or, refl, sym, ap, arith, lt-ltb, eq-eqb, ne_eqb, append_assoc}
use Rattle.std.specs.Prelude.{◌==◌, nat_lt}
use Rattle.cwr_record.specs.declared.columns.Column.{Column}
use Rattle.cwr_field.specs.Shown.{is_unprinted}
use Rattle.html_text.specs.Pieces.{Piece, Fixed, Byte, Hex, cell, field_cell}
use Rattle.html_text.specs.declared.fragment.Fragment.{Fragment}
use Rattle.html_text.specs.declared.fragment.Fragment.TheVariants.{Beyond, Blank, ByteBox, ByteBoxEnd, MarkEnd}
use Rattle.check_pages.specs.Boxes.{is_before, is_closed, is_inside, is_opened, is_start, line_shown, marked, place_shown, places, where_so}
use Rattle.check_pages.specs.ShownLines.{are_apart, is_begin}

through_cell : (within unprinted : Bool) (b : ℕ) (rest : List Piece) → are_apart within (cond unprinted (Fixed ByteBox ∷ Hex b ∷ Fixed ByteBoxEnd ∷ []) (Byte b ∷ []) ++ rest) ≡ are_apart within rest
through_cell within true b rest = refl
through_cell within false b rest = refl

through_field : (within blank : Bool) (b : ℕ) (rest : List Piece) → are_apart within (cond blank (Fixed Blank ∷ []) (cell b) ++ rest) ≡ are_apart within rest
through_field within true b rest = refl
through_field within false b rest = through_cell within (is_unprinted b) b rest

through_byte : (within inside : Bool) (b : ℕ) (rest : List Piece) → are_apart within (cond inside (field_cell b) (cell b) ++ rest) ≡ are_apart within rest
through_byte within true b rest = through_field within (b == 32) b rest
through_byte within false b rest = through_cell within (is_unprinted b) b rest

through_shown : (within past inside : Bool) (b : ℕ) (rest : List Piece) → are_apart within (cond past (Fixed Beyond ∷ []) (cond inside (field_cell b) (cell b)) ++ rest) ≡ are_apart within rest
through_shown within true inside b rest = refl
through_shown within false inside b rest = through_byte within inside b rest

-- what a place shows begins and ends no mark
through : (within : Bool) (line : List ℕ) (spots : List Column) (k : ℕ) (rest : List Piece) → are_apart within (place_shown line spots k ++ rest) ≡ are_apart within rest
through within line spots k rest = through_shown within (nat_lt (length line) k) (is_inside spots k) (get_or line (k - 1) 0) rest

opens : (begin : Fragment) (rest : List Piece) → is_begin (Fixed begin) ≡ true → are_apart false (Fixed begin ∷ rest) ≡ are_apart true rest
opens begin rest is = rw is refl

-- where a mark begins none is open: `q` and `i` say whether the place before and this one are inside, `s` whether a field begins
begin_step : (q i s : Bool) (begin : Fragment) (rest : List Piece) → is_begin (Fixed begin) ≡ true
    → are_apart (q && (i && not s)) (where_so (i && (s || not q)) begin ++ rest) ≡ are_apart i rest
begin_step true true true begin rest is = opens begin rest is
begin_step true true false begin rest is = refl
begin_step true false s begin rest is = refl
begin_step false true true begin rest is = opens begin rest is
begin_step false true false begin rest is = opens begin rest is
begin_step false false s begin rest is = refl

-- where a mark ends one is open
end_step : (i z : Bool) (rest : List Piece) → are_apart i (where_so (i && z) MarkEnd ++ rest) ≡ are_apart (i && not z) rest
end_step true true rest = refl
end_step true false rest = refl
end_step false z rest = refl

-- whether a mark is open before a place
abbrev is_open : List Column → ℕ → Bool
is_open spots k = is_before spots k && (is_inside spots k && not (is_start spots k))

-- whether one is open behind it
abbrev is_left_open : List Column → ℕ → ℕ → Bool
is_left_open spots last k = is_inside spots k && not ((k == last) || is_start spots (k + 1) || not (is_inside spots (k + 1)))

place_step : (line : List ℕ) (spots : List Column) (last k : ℕ) (begin : Fragment) (rest : List Piece) → is_begin (Fixed begin) ≡ true
    → are_apart (is_open spots k) ((where_so (is_opened spots k) begin ++ (place_shown line spots k ++ where_so (is_closed spots last k) MarkEnd)) ++ rest) ≡ are_apart (is_left_open spots last k) rest
place_step line spots last k begin rest is =
    let w = where_so (is_opened spots k) begin in
    let s = place_shown line spots k in
    let e = where_so (is_closed spots last k) MarkEnd in
    ap (λ (l : List Piece). are_apart (is_open spots k) l) (append_assoc w (s ++ e) rest ∙ ap (λ (l : List Piece). w ++ l) (append_assoc s e rest))
    ∙ begin_step (is_before spots k) (is_inside spots k) (is_start spots k) begin (s ++ (e ++ rest)) is
    ∙ through (is_inside spots k) line spots k (e ++ rest)
    ∙ end_step (is_inside spots k) ((k == last) || is_start spots (k + 1) || not (is_inside spots (k + 1))) rest

left_by : (i s j : Bool) → (i && not (s || not j)) ≡ (i && (j && not s))
left_by true true true = refl
left_by true true false = refl
left_by true false true = refl
left_by true false false = refl
left_by false s j = refl

-- behind the last place none is open
ended : (spots : List Column) (last k : ℕ) → k ≡ last → is_left_open spots last k ≡ false
ended spots last k same = last_by (is_inside spots k) (k == last) (is_start spots (k + 1)) (not (is_inside spots (k + 1))) (eq-eqb k last same)
  where
    last_by : (i l s z : Bool) → l ≡ true → (i && not (l || s || z)) ≡ false
    last_by true l s z is = rw is refl
    last_by false l s z is = refl

-- behind another it is as before the next
goes_on : (spots : List Column) (last k : ℕ) → 0 < k → (k ≡ last → ⊥) → is_left_open spots last k ≡ is_open spots (suc k)
goes_on spots last k some other =
    let next : k + 1 ≡ suc k = omega arith in
    let this : suc k - 1 ≡ k = omega arith in
    let before : is_before spots (suc k) ≡ is_inside spots k =
    ap (λ (b : Bool). b && is_inside spots (suc k - 1)) (lt-ltb 1 (suc k) (omega (arith, some))) ∙ ap (λ (m : ℕ). is_inside spots m) this in
    ap (λ (l : Bool). is_inside spots k && not (l || is_start spots (k + 1) || not (is_inside spots (k + 1)))) (ne_eqb k last other)
    ∙ left_by (is_inside spots k) (is_start spots (k + 1)) (is_inside spots (k + 1))
    ∙ ap (λ (m : ℕ). is_inside spots k && (is_inside spots m && not (is_start spots m))) next
    ∙ ap (λ (b : Bool). b && (is_inside spots (suc k) && not (is_start spots (suc k)))) (sym before)

-- the marks of the places from one on
from_place : (line : List ℕ) (spots : List Column) (last k n : ℕ) (begin : Fragment) → is_begin (Fixed begin) ≡ true → 0 < k → k + n ≡ last
    → are_apart (is_open spots k) (marked (is_opened spots) (is_closed spots last) (place_shown line spots) begin k (suc n)) ≡ true
unfolding marked
from_place line spots last k zero begin is some all =
    let same : k ≡ last = omega (arith, all) in
    place_step line spots last k begin [] is ∙ ap (λ (b : Bool). not b) (ended spots last k same)
from_place line spots last k (suc n) begin is some all =
    let rest = marked (is_opened spots) (is_closed spots last) (place_shown line spots) begin (suc k) (suc n) in
    place_step line spots last k begin rest is
    ∙ ap (λ (b : Bool). are_apart b rest) (goes_on spots last k some (λ same. omega (arith, all, same)))
    ∙ from_place line spots last (suc k) n begin is (omega arith) (omega (arith, all))

-- the first place is not in an open mark
first_place : (line : List ℕ) (spots : List Column) (last : ℕ) (begin : Fragment) → is_begin (Fixed begin) ≡ true
    → are_apart false (marked (is_opened spots) (is_closed spots last) (place_shown line spots) begin 1 last) ≡ true
unfolding marked
first_place line spots zero begin is = refl
first_place line spots (suc n) begin is = from_place line spots (suc n) 1 n begin is (omega arith) (omega arith)

pub apart : (line : List ℕ) (spots : List Column) (begin : Fragment) → is_begin (Fixed begin) ≡ true → are_apart false (line_shown line spots begin) ≡ true
apart line spots begin is = first_place line spots (places (length line) spots) begin is
