-- Where the pieces of a line in its box stand.
use Rattle.std.proofs.Common.{ℕ, zero, suc, ◌-◌, Bool, cond, List, [], ◌∷◌, ◌++◌, length, get_or, refl}
use Rattle.std.specs.Prelude.{nat_lt}
use Rattle.cwr_record.specs.declared.columns.Column.{Column}
use Rattle.html_text.specs.Fragments.{fragment_text}
use Rattle.html_text.specs.Pieces.{Piece, Fixed, cell, field_cell}
use Rattle.html_text.specs.declared.fragment.Fragment.{Fragment}
use Rattle.html_text.specs.declared.fragment.Fragment.TheVariants.{Beyond, MarkEnd}
use Rattle.html_text.proofs.lemmas.Contexts.{Keeps, both, either, in_cell, in_field}
use Rattle.check_pages.specs.Boxes.{is_closed, is_inside, is_opened, line_shown, marked, place_shown, places, where_so}

place : (line : List ℕ) (spots : List Column) (k : ℕ) → Keeps (place_shown line spots k)
unfolding fragment_text
place line spots k =
    let b = get_or line (k - 1) 0 in
    either (nat_lt (length line) k) (Fixed Beyond ∷ []) (cond (is_inside spots k) (field_cell b) (cell b)) refl
    (either (is_inside spots k) (field_cell b) (cell b) (in_field b) (in_cell b))

pub where_text : (so : Bool) (f : Fragment) → Keeps (Fixed f ∷ []) → Keeps (where_so so f)
where_text so f keeps = either so (Fixed f ∷ []) [] keeps refl

marks : (o c : ℕ → Bool) (s : ℕ → List Piece) (begin : Fragment) (k n : ℕ) → Keeps (Fixed begin ∷ []) → ((k : ℕ) → Keeps (s k)) → Keeps (marked o c s begin k n)
unfolding marked fragment_text
marks o c s begin k zero first each_place = refl
marks o c s begin k (suc n) first each_place =
    let from = where_so (o k) begin in
    let to = where_so (c k) MarkEnd in
    both (from ++ (s k ++ to)) (marked o c s begin (suc k) n)
    (both from (s k ++ to) (where_text (o k) begin first) (both (s k) to (each_place k) (where_text (c k) MarkEnd refl)))
    (marks o c s begin (suc k) n first each_place)

pub line : (l : List ℕ) (spots : List Column) (begin : Fragment) → Keeps (Fixed begin ∷ []) → Keeps (line_shown l spots begin)
line l spots begin first =
    let last = places (length l) spots in
    marks (is_opened spots) (is_closed spots last) (place_shown l spots) begin 1 last first (place l spots)
