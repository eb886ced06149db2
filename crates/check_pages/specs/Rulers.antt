-- The ruler over the rows of a line, 80 columns each.
use Rattle.std.specs.Prelude.{ℕ, zero, suc, ◌+◌, ◌*◌, nat_lt, List, [], ◌∷◌, ◌++◌, if◌then◌else◌}
use Rattle.std.specs.List.{flat_map}
use Rattle.html_text.specs.Pieces.{Piece, Fixed, Number}
use Rattle.html_text.specs.declared.fragment.Fragment.TheVariants.{Dot, RulerTen, RulerRow}

-- what stands before a number of two to four digits that ends in the fifth place
abbrev pub dots : ℕ → List Piece
dots number =
    if nat_lt number 100 then Fixed Dot ∷ Fixed Dot ∷ Fixed Dot ∷ []
    else if nat_lt number 1000 then Fixed Dot ∷ Fixed Dot ∷ []
    else Fixed Dot ∷ []

-- ten columns, the last of which has this number
abbrev pub ruler_ten : ℕ → List Piece
ruler_ten number = Fixed RulerTen ∷ (dots number ++ Number number ∷ [])

-- a row behind so many columns
abbrev pub ruler_row : ℕ → List Piece
ruler_row before = flat_map (λ ten. ruler_ten (before + ten)) (10 ∷ 20 ∷ 30 ∷ 40 ∷ 50 ∷ 60 ∷ 70 ∷ 80 ∷ [])

-- the rows up to this one, of which the first is 0; each but the first stands behind a line end of CSS
unfoldable pub ruler : ℕ → List Piece
ruler zero = ruler_row 0
ruler (suc row) = ruler row ++ Fixed RulerRow ∷ ruler_row (80 * suc row)
