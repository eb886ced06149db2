-- Pages of the elements of a list, each told by what is read of it.
use Rattle.std.proofs.Common.{◌≡◌, ℕ, ◌+◌, ◌<◌, List, ◌++◌, length, drop, map, get_or, ap}
use Rattle.std.specs.List.{flat_map}
use Rattle.std.proofs.lemmas.List.{drop_more}
use Rattle.html_text.specs.Pieces.{Piece, page_text}
use Rattle.html_text.proofs.lemmas.Pages.{moved_on}

-- what is written and what is left make the whole, also with the pieces of one element more written
pub one_more_mapped : {X Y : Type 0} (f : Y → List Piece) (h : X → Y) (xs : List X) (i : ℕ) (d : X) (out new total : List ℕ) → i < length xs
    → new ≡ out ++ page_text (f (h (get_or xs i d)))
    → out ++ page_text (flat_map f (map h (drop i xs))) ≡ total
    → new ++ page_text (flat_map f (map h (drop (i + 1) xs))) ≡ total
one_more_mapped f h xs i d out new total lt wrote so_far =
    moved_on out new total (f (h (get_or xs i d))) (flat_map f (map h (drop (i + 1) xs))) (flat_map f (map h (drop i xs))) wrote
    (ap (λ left. flat_map f (map h left)) (drop_more xs i d lt)) so_far
