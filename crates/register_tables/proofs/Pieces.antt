-- What is written of a list, one element after another, and what is left to write.
use Rattle.std.proofs.Common.{◌≡◌, ◌∙◌, ◌+◌, ◌<◌, ◌≤◌, ℕ, List, [], ◌∷◌, ◌++◌, length, drop, get_or, sym, ap, append_assoc, append-nil}
use Rattle.std.specs.List.{flat_map}
use Rattle.std.proofs.lemmas.List.{at_drop_all, drop_more}

-- the piece of one element more
pub piece_more : {X Y : Type 0} (f : X → List Y) (xs : List X) (i : ℕ) (d : X) (before after total : List Y) → i < length xs
    → before ++ flat_map f (drop i xs) ≡ total → after ≡ before ++ f (get_or xs i d) → after ++ flat_map f (drop (i + 1) xs) ≡ total
piece_more {X} {Y} f xs i d before after total lt part more =
    ap (λ (text : List Y). text ++ flat_map f (drop (i + 1) xs)) more
    ∙ append_assoc before (f (get_or xs i d)) (flat_map f (drop (i + 1) xs))
    ∙ ap (λ (ys : List X). before ++ flat_map f ys) (sym (drop_more xs i d lt))
    ∙ part

-- nothing is left
pub piece_end : {X Y : Type 0} (f : X → List Y) (xs : List X) (i : ℕ) (before total : List Y) → length xs ≤ i → before ++ flat_map f (drop i xs) ≡ total → before ≡ total
piece_end {X} {Y} f xs i before total end part = sym (append-nil before) ∙ ap (λ (ys : List Y). before ++ ys) (sym (at_drop_all (flat_map f) xs i end)) ∙ part
