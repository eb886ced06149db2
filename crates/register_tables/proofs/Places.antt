-- Where one is placed in a list: before the first that it is ahead of.
use Rattle.std.proofs.Common.{◌≡◌, ◌∙◌, ◌+◌, ◌<◌, ◌≤◌, ℕ, Bool, true, false, List, [], ◌∷◌, ◌++◌, length, drop, take, get_or, if◌then◌else◌, arith, sym, ap, subst, append_assoc}
use Rattle.std.specs.Prelude.{insert}
use Rattle.std.proofs.lemmas.List.{drop_all, drop_more, take_more}
use Rattle.register_tables.specs.Summary.{placed}

-- it stands behind one more
pub placed_on : {X : Type 0} (ahead : X → X → Bool) (xs : List X) (one : X) (i : ℕ) (d : X) → i < length xs → ahead one (get_or xs i d) ≡ false
    → placed ahead one xs ≡ take i xs ++ placed ahead one (drop i xs) → placed ahead one xs ≡ take (i + 1) xs ++ placed ahead one (drop (i + 1) xs)
placed_on {X} ahead xs one i d lt other part =
    part
    ∙ ap (λ (ys : List X). take i xs ++ placed ahead one ys) (drop_more xs i d lt)
    ∙ ap (λ (b : Bool). take i xs ++ (if b then one ∷ get_or xs i d ∷ drop (i + 1) xs else get_or xs i d ∷ placed ahead one (drop (i + 1) xs))) other
    ∙ sym (append_assoc (take i xs) (get_or xs i d ∷ []) (placed ahead one (drop (i + 1) xs)))
    ∙ ap (λ (ys : List X). ys ++ placed ahead one (drop (i + 1) xs)) (sym (take_more xs i d lt))

-- it stands before this one
pub placed_here : {X : Type 0} (ahead : X → X → Bool) (xs : List X) (one : X) (i : ℕ) (d : X) → i < length xs → ahead one (get_or xs i d) ≡ true
    → placed ahead one xs ≡ take i xs ++ placed ahead one (drop i xs) → insert xs i one ≡ placed ahead one xs
placed_here {X} ahead xs one i d lt is part =
    sym (part
    ∙ ap (λ (ys : List X). take i xs ++ placed ahead one ys) (drop_more xs i d lt)
    ∙ ap (λ (b : Bool). take i xs ++ (if b then one ∷ get_or xs i d ∷ drop (i + 1) xs else get_or xs i d ∷ placed ahead one (drop (i + 1) xs))) is
    ∙ ap (λ (ys : List X). take i xs ++ one ∷ ys) (sym (drop_more xs i d lt)))

-- it stands last
pub placed_last : {X : Type 0} (ahead : X → X → Bool) (xs : List X) (one : X) (i : ℕ) → length xs ≤ i → i ≤ length xs
    → placed ahead one xs ≡ take i xs ++ placed ahead one (drop i xs) → insert xs (length xs) one ≡ placed ahead one xs
placed_last {X} ahead xs one i end within part =
    let at : i ≡ length xs = omega (arith, end, within) in
    subst (λ (n : ℕ). insert xs n one ≡ placed ahead one xs) at
    (ap (λ (ys : List X). take i xs ++ one ∷ ys) (drop_all i xs end)
    ∙ sym (part ∙ ap (λ (ys : List X). take i xs ++ placed ahead one ys) (drop_all i xs end)))
