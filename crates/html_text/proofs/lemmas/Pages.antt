-- Pages that are put together.
use Rattle.std.proofs.Common.{◌≡◌, ◌∙◌, ℕ, ◌+◌, ◌<◌, List, ◌++◌, length, drop, get_or, ap, sym, append_assoc}
use Rattle.std.specs.List.{flat_map}
use Rattle.std.proofs.lemmas.Grind.{flat_map-append}
use Rattle.std.proofs.lemmas.List.{drop_more}
use Rattle.html_text.specs.Pieces.{Piece, piece_text, page_text}

-- the text of two pages, one behind the other
pub page_append : (front back : List Piece) → page_text (front ++ back) ≡ page_text front ++ page_text back
page_append front back = flat_map-append piece_text front back

-- what is written and what is left make the whole, also with the pieces of one element more written
pub one_more : {X : Type 0} (f : X → List Piece) (xs : List X) (i : ℕ) (d : X) (out new total : List ℕ) → i < length xs
    → new ≡ out ++ page_text (f (get_or xs i d))
    → out ++ page_text (flat_map f (drop i xs)) ≡ total
    → new ++ page_text (flat_map f (drop (i + 1) xs)) ≡ total
one_more f xs i d out new total lt wrote so_far =
    let rest = flat_map f (drop (i + 1) xs) in
    ap (λ (text : List ℕ). text ++ page_text rest) wrote
    ∙ append_assoc out (page_text (f (get_or xs i d))) (page_text rest)
    ∙ ap (λ (l : List ℕ). out ++ l) (sym (page_append (f (get_or xs i d)) rest))
    ∙ ap (λ left. out ++ page_text (flat_map f left)) (sym (drop_more xs i d lt))
    ∙ so_far

-- three parts in turn
pub three : (start a b new : List ℕ) (x y z : List Piece) → a ≡ start ++ page_text x → b ≡ a ++ page_text y → new ≡ b ++ page_text z → new ≡ start ++ page_text (x ++ (y ++ z))
three start a b new x y z first second third =
    third
    ∙ ap (λ (l : List ℕ). l ++ page_text z) (second ∙ ap (λ (l : List ℕ). l ++ page_text y) first)
    ∙ append_assoc (start ++ page_text x) (page_text y) (page_text z)
    ∙ append_assoc start (page_text x) (page_text y ++ page_text z)
    ∙ ap (λ (l : List ℕ). start ++ (page_text x ++ l)) (sym (page_append y z))
    ∙ ap (λ (l : List ℕ). start ++ l) (sym (page_append x (y ++ z)))

-- a part of what is left is written
pub moved_on : (out new total : List ℕ) (part rest left : List Piece) → new ≡ out ++ page_text part → left ≡ part ++ rest → out ++ page_text left ≡ total → new ++ page_text rest ≡ total
moved_on out new total part rest left wrote is so_far =
    ap (λ (l : List ℕ). l ++ page_text rest) wrote
    ∙ append_assoc out (page_text part) (page_text rest)
    ∙ ap (λ (l : List ℕ). out ++ l) (sym (page_append part rest))
    ∙ ap (λ (l : List Piece). out ++ page_text l) (sym is)
    ∙ so_far
