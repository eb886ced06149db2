-- Drafts of followers that are taken away one after another.
use Rattle.std.proofs.Common.{◌≡◌, ℕ, zero, suc, ◌+◌, ◌≤◌, Bool, false, List, [], ◌∷◌, set, map, get_or, length, refl, ◌∙◌, ap, arith}
use Rattle.std.specs.Prelude.{Option, Some, None, IfSome}
use Rattle.std.proofs.lemmas.Option.{same_Some}
use Rattle.atomic_file.specs.Names.{State, HasEach, HasNoneBeside, dropping_follower, dropping_followers}
use Rattle.atomic_file.specs.Looking.{Becomes}
use Rattle.atomic_file.specs.Keeping.{Leads}

-- the first n are no more
abbrev pub cleared : ℕ → List Bool → List Bool
cleared zero xs = xs
cleared (suc n) [] = []
cleared (suc n) (x ∷ xs) = false ∷ cleared n xs

set-cleared : (n : ℕ) (xs : List Bool) → set (cleared n xs) n false ≡ cleared (suc n) xs
set-cleared zero [] = refl
set-cleared zero (x ∷ xs) = refl
set-cleared (suc n) [] = refl
set-cleared (suc n) (x ∷ xs) = ap (λ ys. false ∷ ys) (set-cleared n xs)

cleared-more : (n : ℕ) (xs : List Bool) → set (cleared n xs) n false ≡ cleared (n + 1) xs
cleared-more n xs = let next : suc n ≡ n + 1 = omega arith in set-cleared n xs ∙ ap (λ k. cleared k xs) next

cleared-all : (n : ℕ) (xs : List Bool) → length xs ≤ n → cleared n xs ≡ map (λ _. false) xs
cleared-all zero [] within = refl
cleared-all zero (x ∷ xs) within = absurd (omega (arith, within))
cleared-all (suc n) [] within = refl
cleared-all (suc n) (x ∷ xs) within = ap (λ ys. false ∷ ys) (cleared-all n xs (omega (arith, within)))

none_there : (xs : List Bool) (k : ℕ) → get_or (map (λ _. false) xs) k false ≡ false
none_there [] k = refl
none_there (x ∷ xs) zero = refl
none_there (x ∷ xs) (suc k) = none_there xs k

-- the drafts of the followers below n were taken away
abbrev pub dropping_below : ℕ → State → State
dropping_below n s = record s { beside = cleared n s.beside }

pub Becomes-none : (old : Option State) → Becomes (dropping_below 0) old old
Becomes-none None = refl
Becomes-none (Some s) = refl

pub Becomes-drop : (at : ℕ) (old mid new : Option State) → Becomes (dropping_below at) old mid →
    Becomes (dropping_follower at) mid new → Becomes (dropping_below (at + 1)) old new
Becomes-drop at None None new first then = then
Becomes-drop at None (Some m) new first then = cc
Becomes-drop at (Some s) None new first then = cc
Becomes-drop at (Some s) (Some m) new first then =
    let whole : m ≡ dropping_below at s = same_Some _ _ first in rw (then, whole, cleared-more at s.beside) refl

-- those of all
pub Becomes-all : (n at : ℕ) (old new : Option State) → IfSome old (λ s. n ≡ length s.waiting) → IfSome old HasEach → n ≤ at →
    Becomes (dropping_below at) old new → Becomes dropping_followers old new
Becomes-all n at None new number each done so = so
Becomes-all n at (Some s) new number each done so =
    let drafts = each.drafts in
    rw (so, cleared-all at s.beside (omega (arith, number, drafts, done))) refl

pub Leads-dropped : (old new : Option State) → Becomes dropping_followers old new → Leads (λ _ t. HasNoneBeside t) old new
Leads-dropped None new so = tt
Leads-dropped (Some s) new so = rw so (λ k. none_there s.beside k)
