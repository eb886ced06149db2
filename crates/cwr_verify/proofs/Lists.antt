-- Lists: an item by its place, before and after a write, and two lists whose items belong together.
use Rattle.std.proofs.Common.{◌≡◌, ◌≢◌, ◌∙◌, ℕ, zero, suc, ◌+◌, ◌<◌, List, [], ◌∷◌, ◌++◌, length, get_or, set, take, drop, Some, refl, sym, ap, subst, arith}
use Rattle.std.specs.Prelude.{slice_get}
use Rattle.std.specs.List.{AllZip}
use Rattle.std.proofs.lemmas.List.{drop_more, take_more}
use Rattle.std.proofs.lemmas.Option.{get_or_from_slice_get, slice_get_within}

-- ---- the parts of a list around one of its items

pub drop_here : {X : Type 0} (xs : List X) (n : ℕ) (x : X) → slice_get xs n ≡ Some x → drop n xs ≡ x ∷ drop (n + 1) xs
drop_here xs n x is =
    drop_more xs n x (slice_get_within xs n x is) ∙ ap (λ y. y ∷ drop (n + 1) xs) (get_or_from_slice_get xs n x x is)

pub take_here : {X : Type 0} (xs : List X) (n : ℕ) (x : X) → slice_get xs n ≡ Some x → take (n + 1) xs ≡ take n xs ++ x ∷ []
take_here xs n x is =
    take_more xs n x (slice_get_within xs n x is) ∙ ap (λ y. take n xs ++ y ∷ []) (get_or_from_slice_get xs n x x is)

pub item_at : {X : Type 0} (xs : List X) (n : ℕ) → n < length xs → (x : X) × (slice_get xs n ≡ Some x)
item_at [] n lt = absurd (omega arith)
item_at (x ∷ xs) zero lt = (x, refl)
item_at (x ∷ xs) (suc n) lt = item_at xs n (omega (arith, lt))

-- ---- after a write

pub slice_get-set_same : {X : Type 0} (xs : List X) (i : ℕ) (x : X) → i < length xs → slice_get (set xs i x) i ≡ Some x
slice_get-set_same [] i x lt = absurd (omega (arith, lt))
slice_get-set_same (y ∷ xs) zero x lt = refl
slice_get-set_same (y ∷ xs) (suc i) x lt = slice_get-set_same xs i x (omega (arith, lt))

pub slice_get-set_other : {X : Type 0} (xs : List X) (i j : ℕ) (x : X) → j ≢ i → slice_get (set xs i x) j ≡ slice_get xs j
slice_get-set_other [] i j x other = refl
slice_get-set_other (y ∷ xs) zero zero x other = absurd (other refl)
slice_get-set_other (y ∷ xs) zero (suc j) x other = refl
slice_get-set_other (y ∷ xs) (suc i) zero x other = refl
slice_get-set_other (y ∷ xs) (suc i) (suc j) x other = slice_get-set_other xs i j x (λ same. other (ap suc same))

-- ---- two lists whose items belong together

pub zip_length : {X Y : Type 0} (R : X → Y → Type 0) (xs : List X) (ys : List Y) → AllZip R xs ys → length ys ≡ length xs
zip_length R [] [] all = refl
zip_length R [] (y ∷ ys) all = absurd all
zip_length R (x ∷ xs) [] all = absurd all
zip_length R (x ∷ xs) (y ∷ ys) all = ap suc (zip_length R xs ys all.1)

pub zip_at : {X Y : Type 0} (R : X → Y → Type 0) (xs : List X) (ys : List Y) (n : ℕ) (x : X) (y : Y) → AllZip R xs ys → n < length xs
    → x ≡ get_or xs n x → y ≡ get_or ys n y → R x y
zip_at R [] ys n x y all lt at_x at_y = absurd (omega (arith, lt))
zip_at R (a ∷ xs) [] n x y all lt at_x at_y = absurd all
zip_at R (a ∷ xs) (b ∷ ys) zero x y all lt at_x at_y = subst (λ z. R z y) (sym at_x) (subst (R a) (sym at_y) all.0)
zip_at R (a ∷ xs) (b ∷ ys) (suc n) x y all lt at_x at_y = zip_at R xs ys n x y all.1 (omega (arith, lt)) at_x at_y

-- one more of each
pub zip_more : {X Y : Type 0} (R : X → Y → Type 0) (xs : List X) (ys next : List Y) (n : ℕ) (x : X) (y : Y) → n < length xs → x ≡ get_or xs n x
    → next ≡ ys ++ y ∷ [] → R x y → AllZip R (take n xs) ys → AllZip R (take (n + 1) xs) next
zip_more {X} {Y} R xs ys next n x y lt at put its all =
    subst (AllZip R (take (n + 1) xs)) (sym put)
    (subst (λ (l : List X). AllZip R l (ys ++ y ∷ [])) (sym (take_more xs n x lt ∙ ap (λ (z : X). take n xs ++ z ∷ []) (sym at))) (go (take n xs) ys all)) where
      go : (xs : List X) (ys : List Y) → AllZip R xs ys → AllZip R (xs ++ x ∷ []) (ys ++ y ∷ [])
      go [] [] all = (its, tt)
      go [] (b ∷ ys) all = absurd all
      go (a ∷ xs) [] all = absurd all
      go (a ∷ xs) (b ∷ ys) all = (all.0, go xs ys all.1)
