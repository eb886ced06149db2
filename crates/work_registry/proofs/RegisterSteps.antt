-- What holds of each of a list so far, and of one more.
use Rattle.std.proofs.Common.{◌≡◌, ◌∙◌, ℕ, ◌+◌, ◌<◌, List, [], ◌∷◌, ◌++◌, length, take, get_or, ap, sym, subst}
use Rattle.std.specs.List.{AllByRecursion}
use Rattle.std.proofs.lemmas.List.{take_more}

pub all_push : {X : Type 0} (P : X → Type 0) (xs : List X) (x : X) → AllByRecursion P xs → P x → AllByRecursion P (xs ++ x ∷ [])
all_push P [] x p q = (q, tt)
all_push P (y ∷ xs) x p q = (p.0, all_push P xs x p.1 q)

pub one_of_all : {X : Type 0} (P : X → Type 0) (xs : List X) (i : ℕ) (x : X) → i < length xs → x ≡ get_or xs i x → AllByRecursion P (take i xs) → P x → AllByRecursion P (take (i + 1) xs)
one_of_all {X} P xs i x lt is so_far one =
    let Q : List X → Type 0 = λ ys. AllByRecursion P ys in
    subst Q (ap (λ (y : X). take i xs ++ y ∷ []) is ∙ sym (take_more xs i x lt)) (all_push P (take i xs) x so_far one)
