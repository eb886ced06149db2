-- Lists of views, read by `get_elem?`, and what they add up to.
use Rattle.std.proofs.Common.{◌≡◌, ℕ, zero, suc, ◌+◌, ◌*◌, ◌<◌, ◌≤◌, ◌≢◌, List, [], ◌∷◌, ◌++◌, length, get_or, set, sym, refl, ap, ◌∙◌, arith, append_assoc, append-nil}
use Rattle.std.specs.List.{sum_by}
use Rattle.std.specs.Prelude.{◌==◌}
use Rattle.std.proofs.Math.Nat.{add-mul}
use Rattle.std.proofs.lemmas.List.Sums.{sum_by-set, sum_by-cons, get_or-le-sum_by}
use Rattle.std.proofs.lemmas.List.Elements.{filter-append}
use mathlib.Core.Option.{some, some-injective, some-ne-none}
use mathlib.Core.List.{IsPrefix}
use lib.ListN.{get_elem?}
use Rattle.work_registry.specs.EntryValue.{EntryValue}
use Rattle.work_registry.specs.Replay.{made}

module _ {A : Type 0} where
  pub within : (l : List A) (i : ℕ) (a : A) → get_elem? l i ≡ some a → i < length l
  within [] i a e = absurd (some-ne-none a (sym e))
  within (x ∷ xs) zero a e = omega arith
  within (x ∷ xs) (suc i) a e = let t = within xs i a e in omega arith

  pub read : (l : List A) (i : ℕ) (a d : A) → get_elem? l i ≡ some a → get_or l i d ≡ a
  read [] i a d e = absurd (some-ne-none a (sym e))
  read (x ∷ xs) zero a d e = some-injective x a e
  read (x ∷ xs) (suc i) a d e = read xs i a d e

  pub there : (l : List A) (i : ℕ) → i < length l → (a : A) × (get_elem? l i ≡ some a)
  there [] i h = absurd (omega arith)
  there (x ∷ xs) zero h = (x, refl)
  there (x ∷ xs) (suc i) h = there xs i (omega arith)

  -- a sum after a write
  pub sum_set : (f : A → ℕ) (l : List A) (i : ℕ) (v w : A) → get_elem? l i ≡ some v → sum_by f (set l i w) + f v ≡ sum_by f l + f w
  sum_set f l i v w e = ap (λ (x : A). sum_by f (set l i w) + f x) (sym (read l i v v e)) ∙ sum_by-set f l i w v (within l i v e)

  pub sum_bound : (f g : A → ℕ) (m : ℕ) (l : List A) → ((i : ℕ) (a : A) → get_elem? l i ≡ some a → f a ≤ g a * m) → sum_by f l ≤ sum_by g l * m
  sum_bound f g m [] h = omega arith
  sum_bound f g m (x ∷ xs) h = let a = sum_by-cons f x xs in let b = sum_by-cons g x xs in let c = h 0 x refl in let d = sum_bound f g m xs (λ i y e. h (suc i) y e) in
      let e : sum_by g (x ∷ xs) * m ≡ g x * m + sum_by g xs * m = ap (λ (k : ℕ). k * m) b ∙ add-mul (g x) (sum_by g xs) m in omega arith

  -- where one element has the whole sum, each other has none of it
  pub no_other : (f : A → ℕ) (l : List A) (i j : ℕ) (v u : A) → get_elem? l i ≡ some v → get_elem? l j ≡ some u → j ≢ i → sum_by f l ≤ f v → f u ≡ 0
  no_other f [] i j v u a b ne le = absurd (some-ne-none v (sym a))
  no_other f (x ∷ xs) zero zero v u a b ne le = absurd (ne refl)
  no_other f (x ∷ xs) zero (suc j) v u a b ne le = let s = sum_by-cons f x xs in let same : f x ≡ f v = ap f (some-injective x v a) in
      let g = get_or-le-sum_by f xs j u (within xs j u b) in let r : f (get_or xs j u) ≡ f u = ap f (read xs j u u b) in omega arith
  no_other f (x ∷ xs) (suc i) zero v u a b ne le = let s = sum_by-cons f x xs in let same : f x ≡ f u = ap f (some-injective x u b) in
      let g = get_or-le-sum_by f xs i v (within xs i v a) in let r : f (get_or xs i v) ≡ f v = ap f (read xs i v v a) in omega arith
  no_other f (x ∷ xs) (suc i) (suc j) v u a b ne le = let s = sum_by-cons f x xs in no_other f xs i j v u a b (λ e. ne (ap suc e)) (omega arith)

  pub prefix_more : (xs ys zs : List A) → IsPrefix xs ys → IsPrefix xs (ys ++ zs)
  prefix_more xs ys zs p = (p.0 ++ zs, sym (append_assoc xs p.0 zs) ∙ ap (λ w. w ++ zs) p.1)

  pub prefix_self : (xs : List A) → IsPrefix xs xs
  prefix_self xs = ([], append-nil xs)

pub made_more : (xs ys : List EntryValue) (session : ℕ) → made ys session ≡ [] → made (xs ++ ys) session ≡ made xs session
made_more xs ys session e = filter-append (λ x. x.session == session) xs ys ∙ (ap (λ l. made xs session ++ l) e ∙ append-nil (made xs session))
