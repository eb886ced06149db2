-- The lines since one of a kind, and those of a kind, are no more than the lines.
use Rattle.std.proofs.Common.{◌≤◌, Bool, true, false, cond, List, [], ◌∷◌, length, arith}
use Rattle.std.specs.List.{filter}
use Rattle.cwr_grammar.specs.declared.role.Role.{Role}
use Rattle.cwr_grammar.specs.Before.{since}

pub length-since-le : (p : Role → Bool) (before : List Role) → length (since p before) ≤ length before
length-since-le p [] = omega arith
length-since-le p (line ∷ before) =
    let h = length-since-le p before in
    elim (p line) as (λ b. length (cond b [] (line ∷ since p before)) ≤ length (line ∷ before)) [ true ↦ omega arith | false ↦ omega arith ]

pub length-filter-le : {X : Type 0} (p : X → Bool) (xs : List X) → length (filter p xs) ≤ length xs
length-filter-le p [] = omega arith
length-filter-le p (x ∷ xs) =
    let h = length-filter-le p xs in
    elim (p x) as (λ b. length (cond b (x ∷ filter p xs) (filter p xs)) ≤ length (x ∷ xs)) [ true ↦ omega arith | false ↦ omega arith ]
