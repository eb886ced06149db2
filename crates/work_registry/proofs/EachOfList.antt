-- What holds of each of a list, and the whole of it at the end of a loop.
use Rattle.std.proofs.Common.{◌≡◌, ◌∙◌, ℕ, zero, suc, ◌+◌, ◌-◌, ◌<◌, ◌≤◌, List, [], ◌∷◌, ◌++◌, length, take, drop, get_or, arith, ap, sym, subst, length-append}
use Rattle.std.specs.List.{AllByRecursion}
use Rattle.std.proofs.lemmas.List.{drop_at, take_all, take_more}
use Rattle.work_registry.proofs.RegisterSteps.{all_push}

pub at_index : {X : Type 0} (P : X → Type 0) (xs : List X) (i : ℕ) (d : X) → i < length xs → AllByRecursion P xs → P (get_or xs i d)
at_index P [] i d lt all = absurd (omega (arith, lt))
at_index P (x ∷ xs) zero d lt all = all.0
at_index P (x ∷ xs) (suc i) d lt all = at_index P xs i d (omega (arith, lt)) all.1

pub at_item : {X : Type 0} (P : X → Type 0) (xs : List X) (i : ℕ) (x : X) → i < length xs → x ≡ get_or xs i x → AllByRecursion P xs → P x
at_item P xs i x lt is all = subst P (sym is) (at_index P xs i x lt all)

pub one_more : {X : Type 0} (P : X → Type 0) (xs : List X) (i : ℕ) (d : X) → i < length xs → AllByRecursion P (take i xs) → P (get_or xs i d) → AllByRecursion P (take (i + 1) xs)
one_more {X} P xs i d lt so_far one =
    let Q : List X → Type 0 = λ ys. AllByRecursion P ys in
    subst Q (sym (take_more xs i d lt)) (all_push P (take i xs) (get_or xs i d) so_far one)

pub all_of_take : {X : Type 0} (P : X → Type 0) (xs : List X) (i : ℕ) → length xs ≤ i → AllByRecursion P (take i xs) → AllByRecursion P xs
all_of_take {X} P xs i le all =
    let Q : List X → Type 0 = λ ys. AllByRecursion P ys in
    subst Q (take_all i xs le) all

-- what stands behind the front of a text
pub behind : (text front rest : List ℕ) → text ≡ front ++ rest → drop (length text - length rest) text ≡ rest
behind text front rest e =
    let long = ap length e ∙ length-append front rest in
    let same : length front ≡ length text - length rest = omega (arith, long) in
    ap (λ (xs : List ℕ). drop (length text - length rest) xs) e ∙ drop_at front rest (length text - length rest) same
