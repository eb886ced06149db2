-- What a box tells of its line.
use Rattle.std.proofs.Common.{◌≡◌, ◌∙◌, ◌⊎◌, inl, inr, ℕ, zero, suc, ◌+◌, ◌-◌, ◌<◌, ◌≤◌, min, max, Bool, true, false, cond, List, [], ◌∷◌, ◌++◌, length, get_or, take, drop, refl, sym, ap, ap₂, arith, lt-ltb, le-ltb, eqb-true, append-nil}
use Rattle.std.specs.Prelude.{◌==◌}
use Rattle.std.proofs.Math.Seq.{drop-cons}
use Rattle.std.proofs.lemmas.Bool.{cases_lt}
use Rattle.std.proofs.lemmas.Grind.{flat_map-append}
use Rattle.std.proofs.lemmas.List.{drop_all, take_all}
use Rattle.cwr_record.specs.declared.columns.Column.{Column}
use Rattle.cwr_field.specs.Shown.{is_unprinted}
use Rattle.html_text.specs.Pieces.{Piece, Fixed, Byte, Hex, cell, field_cell}
use Rattle.html_text.specs.declared.fragment.Fragment.{Fragment}
use Rattle.html_text.specs.declared.fragment.Fragment.TheVariants.{Blank, ByteBox, ByteBoxEnd, MarkEnd}
use Rattle.check_pages.specs.Boxes.{is_closed, is_inside, is_opened, last_place, line_shown, marked, place_shown, places, where_so}
use Rattle.check_pages.specs.ShownLines.{byte_of, byte_of_fragment, bytes_of}

bytes_append : (xs ys : List Piece) → bytes_of (xs ++ ys) ≡ bytes_of xs ++ bytes_of ys
bytes_append xs ys = flat_map-append byte_of xs ys

no_byte : (so : Bool) (f : Fragment) → byte_of_fragment f ≡ [] → bytes_of (where_so so f) ≡ []
no_byte true f none = ap (λ (l : List ℕ). l ++ []) none
no_byte false f none = refl

cell_byte : (unprinted : Bool) (b : ℕ) → bytes_of (cond unprinted (Fixed ByteBox ∷ Hex b ∷ Fixed ByteBoxEnd ∷ []) (Byte b ∷ [])) ≡ b ∷ []
cell_byte true b = refl
cell_byte false b = refl

field_byte : (blank : Bool) (b : ℕ) → (b == 32) ≡ blank → bytes_of (cond blank (Fixed Blank ∷ []) (cell b)) ≡ b ∷ []
field_byte true b is = ap (λ (k : ℕ). k ∷ []) (sym (eqb-true b 32 is))
field_byte false b is = cell_byte (is_unprinted b) b

place_byte : (inside : Bool) (b : ℕ) → bytes_of (cond inside (field_cell b) (cell b)) ≡ b ∷ []
place_byte true b = field_byte (b == 32) b refl
place_byte false b = cell_byte (is_unprinted b) b

-- a place of the line shows its byte
in_line : (line : List ℕ) (spots : List Column) (k : ℕ) → k ≤ length line → bytes_of (place_shown line spots k) ≡ get_or line (k - 1) 0 ∷ []
in_line line spots k le = rw (le-ltb (length line) k le) (place_byte (is_inside spots k) (get_or line (k - 1) 0))

-- a place behind its end shows none
behind : (line : List ℕ) (spots : List Column) (k : ℕ) → length line < k → bytes_of (place_shown line spots k) ≡ []
behind line spots k lt = rw (lt-ltb (length line) k lt) refl

-- marks show none
between : (o c : Bool) (s : List Piece) (begin : Fragment) → byte_of_fragment begin ≡ [] → bytes_of (where_so o begin ++ (s ++ where_so c MarkEnd)) ≡ bytes_of s
between o c s begin none =
    bytes_append (where_so o begin) (s ++ where_so c MarkEnd)
    ∙ ap₂ (λ (a b : List ℕ). a ++ b) (no_byte o begin none) (bytes_append s (where_so c MarkEnd) ∙ ap (λ (b : List ℕ). bytes_of s ++ b) (no_byte c MarkEnd refl))
    ∙ append-nil (bytes_of s)

take_none : (n : ℕ) (xs : List ℕ) → xs ≡ [] → take n xs ≡ []
take_none zero xs none = refl
take_none (suc n) xs none = ap (λ (l : List ℕ). take (suc n) l) none

next_byte : (line : List ℕ) (spots : List Column) (i n : ℕ) → (i < length line) ⊎ (length line ≤ i) → bytes_of (place_shown line spots (suc i)) ++ take n (drop (suc i) line) ≡ take (suc n) (drop i line)
next_byte line spots i n (inl lt) =
    let first : suc i - 1 ≡ i = omega arith in
    ap (λ (l : List ℕ). l ++ take n (drop (suc i) line)) (in_line line spots (suc i) (omega (arith, lt)) ∙ ap (λ (k : ℕ). get_or line k 0 ∷ []) first)
    ∙ ap (λ (l : List ℕ). take (suc n) l) (sym (drop-cons line i 0 lt))
next_byte line spots i n (inr past) =
    ap₂ (λ (a b : List ℕ). a ++ b) (behind line spots (suc i) (omega (arith, past))) (take_none n (drop (suc i) line) (drop_all (suc i) line (omega (arith, past))))
    ∙ sym (take_none (suc n) (drop i line) (drop_all i line past))

-- places show the bytes of the line in their order
shown_from : (o c : ℕ → Bool) (line : List ℕ) (spots : List Column) (begin : Fragment) (i n : ℕ) → byte_of_fragment begin ≡ []
    → bytes_of (marked o c (place_shown line spots) begin (suc i) n) ≡ take n (drop i line)
unfolding marked
shown_from o c line spots begin i zero none = refl
shown_from o c line spots begin i (suc n) none =
    bytes_append (where_so (o (suc i)) begin ++ (place_shown line spots (suc i) ++ where_so (c (suc i)) MarkEnd)) (marked o c (place_shown line spots) begin (suc (suc i)) n)
    ∙ ap₂ (λ (a b : List ℕ). a ++ b) (between (o (suc i)) (c (suc i)) (place_shown line spots (suc i)) begin none) (shown_from o c line spots begin (suc i) n none)
    ∙ next_byte line spots i n (cases_lt i (length line))

least : (last : ℕ) (spots : List Column) → last ≤ last_place last spots
least last [] = omega arith
least last (spot ∷ spots) = omega (arith, least (max last (min 4096 (spot.start + spot.width - 1))) spots)

most : (last : ℕ) (spots : List Column) → last ≤ 4096 → last_place last spots ≤ 4096
most last [] le = le
most last (spot ∷ spots) le = most (max last (min 4096 (spot.start + spot.width - 1))) spots (omega (arith, le))

enough : (line : List ℕ) (n : ℕ) → min 4096 (length line + 1) ≤ n → n ≤ 4096 → (length line < 4096) ⊎ (4096 ≤ length line) → take n line ≡ take 4096 line
enough line n lo hi (inl short) = take_all n line (omega (arith, lo, short)) ∙ sym (take_all 4096 line (omega (arith, short)))
enough line n lo hi (inr long) = let all : n ≡ 4096 = omega (arith, lo, hi, long) in ap (λ (k : ℕ). take k line) all

-- a box shows its line
pub shows : (line : List ℕ) (spots : List Column) (begin : Fragment) → byte_of_fragment begin ≡ [] → bytes_of (line_shown line spots begin) ≡ take 4096 line
shows line spots begin none =
    let last = places (length line) spots in
    shown_from (is_opened spots) (is_closed spots last) line spots begin 0 last none
    ∙ enough line last (least (min 4096 (length line + 1)) spots) (most (min 4096 (length line + 1)) spots (omega arith)) (cases_lt (length line) 4096)
