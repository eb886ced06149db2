-- Pieces that are written one after the other.
use Rattle.std.proofs.Common.{◌≡◌, ◌∙◌, ℕ, List, ◌++◌, ap, sym, append_assoc}

-- one piece, and what follows it
pub then : (out mid new a b : List ℕ) → mid ≡ out ++ a → new ≡ mid ++ b → new ≡ out ++ (a ++ b)
then out mid new a b e f = f ∙ ap (λ text. text ++ b) e ∙ append_assoc out a b

-- what is written next is what the rest began with
pub moved : (out new piece rest left total : List ℕ) → new ≡ out ++ piece → rest ≡ piece ++ left → out ++ rest ≡ total → new ++ left ≡ total
moved out new piece rest left total wrote begins so_far =
    ap (λ text. text ++ left) wrote ∙ append_assoc out piece left ∙ ap (λ text. out ++ text) (sym begins) ∙ so_far
