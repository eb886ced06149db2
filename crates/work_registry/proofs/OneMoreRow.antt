-- one more row
use Rattle.std.proofs.Common.{◌≡◌, ◌≤◌, ℕ, ◌+◌, ◌==◌, Bool, true, false, List, [], ◌∷◌, ◌++◌, length, refl, sym, ap, ◌∙◌, arith, Option, Some, None, if◌then◌else◌, sum_by, ◌||◌, ◌&&◌, eqb-true, true≢false}
use Rattle.std.proofs.Math.Bool.{or-true}
use Rattle.std.specs.Option.{option_map, option_map_or, is_some}
use Rattle.std.specs.List.{list_any}
use Rattle.std.proofs.lemmas.Grind.{common_steps}
use Rattle.std.proofs.lemmas.List.Sums.{sum_by-cons}
use Rattle.work_registry.specs.declared.key.Key.{Key}
use Rattle.work_registry.specs.Rows.{Row, current, last_of_key, last_such, or_else, same_key}
use Rattle.work_registry.specs.Works.{has_work, is_iswc, iswc_in, iswc_of, sum_of_others, work_count, work_of_iswc}
use Rattle.work_registry.proofs.Keys.{same_key-true, same_key-sym}

pub last_such-push : {X : Type 0} (p : X → Bool) (xs : List X) (x : X) → last_such p (xs ++ x ∷ []) ≡ (if p x then Some x else last_such p xs)
last_such-push p [] x = elim (p x) as (λ b. or_else None (if b then Some x else None) ≡ (if b then Some x else None)) [ true ↦ refl | false ↦ refl ]
last_such-push p (y ∷ ys) x =
    ap (λ o. or_else o (if p y then Some y else None)) (last_such-push p ys x)
    ∙ elim (p x) as (λ b. or_else (if b then Some x else last_such p ys) (if p y then Some y else None) ≡ (if b then Some x else or_else (last_such p ys) (if p y then Some y else None))) [ true ↦ refl | false ↦ refl ]

pub or_else-none : {X : Type 0} (o : Option X) → or_else o None ≡ o
or_else-none None = refl
or_else-none (Some x) = refl

pub list_any-push : {X : Type 0} (p : X → Bool) (xs : List X) (x : X) → list_any p (xs ++ x ∷ []) ≡ (list_any p xs || p x)
list_any-push p [] x = elim (p x) as (λ b. (b || false) ≡ (false || b)) [ true ↦ refl | false ↦ refl ]
list_any-push p (y ∷ ys) x =
    ap (λ b. p y || b) (list_any-push p ys x)
    ∙ elim (p y) as (λ b. (b || (list_any p ys || p x)) ≡ ((b || list_any p ys) || p x)) [ true ↦ refl | false ↦ refl ]

pub eq-sym : (a b : ℕ) → (a == b) ≡ (b == a)
eq-sym a b = grind (arith, common_steps)

pub sum-current-push : (f : Row → ℕ) (rows : List Row) (r : Row) → sum_by f (current (rows ++ r ∷ [])) ≡ sum_of_others f r.key rows + f r
sum-current-push f [] r = omega arith
sum-current-push f (q ∷ qs) r =
    ap (λ c. sum_by f (if c then current (qs ++ r ∷ []) else q ∷ current (qs ++ r ∷ []))) (list_any-push (λ x. same_key x.key q.key) qs r)
    ∙ by (list_any (λ x. same_key x.key q.key) qs) (same_key r.key q.key) (same_key-sym r.key q.key) (sum-current-push f qs r)
  where
    by : (a b : Bool) → b ≡ same_key q.key r.key → sum_by f (current (qs ++ r ∷ [])) ≡ sum_of_others f r.key qs + f r →
        sum_by f (if a || b then current (qs ++ r ∷ []) else q ∷ current (qs ++ r ∷ []))
        ≡ sum_by (λ x. if same_key x.key r.key then 0 else f x) (if a then current qs else q ∷ current qs) + f r
    by true b e s = s
    by false true e s =
        let own : (if same_key q.key r.key then 0 else f q) ≡ 0 = ap (λ b. if b then 0 else f q) (sym e) in
        let g : Row → ℕ = λ x. if same_key x.key r.key then 0 else f x in
        let both : sum_by f (current (qs ++ r ∷ [])) ≡ sum_by g (q ∷ current qs) + f r = omega (arith, own, s, sum_by-cons g q (current qs)) in
        both
    by false false e s =
        let own : (if same_key q.key r.key then 0 else f q) ≡ f q = ap (λ b. if b then 0 else f q) (sym e) in
        let g : Row → ℕ = λ x. if same_key x.key r.key then 0 else f x in
        let both : sum_by f (q ∷ current (qs ++ r ∷ [])) ≡ sum_by g (q ∷ current qs) + f r =
        omega (arith, own, s, sum_by-cons f q (current (qs ++ r ∷ [])), sum_by-cons g q (current qs)) in
        both

pub last_such-none : {X : Type 0} (p : X → Bool) (xs : List X) → list_any p xs ≡ false → last_such p xs ≡ None
last_such-none p [] e = refl
last_such-none p (x ∷ xs) e = by (p x) (list_any p xs) e refl (last_such-none p xs)
  where
    by : (a b : Bool) → (a || b) ≡ false → list_any p xs ≡ b → (list_any p xs ≡ false → last_such p xs ≡ None) →
        or_else (last_such p xs) (if a then Some x else None) ≡ None
    by true b e q ih = absurd (true≢false e)
    by false true e q ih = absurd (true≢false e)
    by false false e q ih = rw (ih q) refl

pub last_such-some : {X : Type 0} (p : X → Bool) (xs : List X) (d : Option X) → list_any p xs ≡ true → or_else (last_such p xs) d ≡ last_such p xs
last_such-some p [] d e = absurd (true≢false (sym e))
last_such-some p (x ∷ xs) d e = by (p x) (last_such p xs) e (last_such-some p xs)
  where
    by : (a : Bool) (o : Option _) → (a || list_any p xs) ≡ true → ((d : Option _) → list_any p xs ≡ true → or_else o d ≡ o) →
        or_else (or_else o (if a then Some x else None)) d ≡ or_else o (if a then Some x else None)
    by a (Some y) e ih = refl
    by true None e ih = refl
    by false None e ih = ih d e

pub sum-current-split : (f : Row → ℕ) (k : Key) (rows : List Row) → sum_by f (current rows) ≡ sum_of_others f k rows + option_map_or f (last_of_key k rows) 0
sum-current-split f k [] = refl
sum-current-split f k (q ∷ qs) =
    by (list_any (λ x. same_key x.key q.key) qs) refl (same_key q.key k) refl (sum-current-split f k qs)
  where
    same : q.key ≡ k → list_any (λ x. same_key x.key q.key) qs ≡ list_any (λ x. same_key x.key k) qs
    same e = ap (λ n. list_any (λ x. same_key x.key n) qs) e

    by : (a : Bool) → list_any (λ x. same_key x.key q.key) qs ≡ a → (b : Bool) → same_key q.key k ≡ b →
        sum_by f (current qs) ≡ sum_of_others f k qs + option_map_or f (last_of_key k qs) 0 →
        sum_by f (if a then current qs else q ∷ current qs)
        ≡ sum_by (λ x. if same_key x.key k then 0 else f x) (if a then current qs else q ∷ current qs)
        + option_map_or f (or_else (last_of_key k qs) (if b then Some q else None)) 0
    by true ea true eb s =
        let some : or_else (last_of_key k qs) (Some q) ≡ last_of_key k qs = last_such-some _ qs (Some q) (sym (same (same_key-true _ _ eb)) ∙ ea) in
        rw some s
    by true ea false eb s = rw (or_else-none (last_of_key k qs)) s
    by false ea true eb s =
        let none : last_of_key k qs ≡ None = last_such-none _ qs (sym (same (same_key-true _ _ eb)) ∙ ea) in
        let own : (if same_key q.key k then 0 else f q) ≡ 0 = ap (λ b. if b then 0 else f q) eb in
        let s' : sum_by f (current qs) ≡ sum_of_others f k qs + 0 = rw none at s in
        let g : Row → ℕ = λ x. if same_key x.key k then 0 else f x in
        let both : sum_by f (q ∷ current qs) ≡ sum_by g (q ∷ current qs) + f q =
        omega (arith, own, s', sum_by-cons f q (current qs), sum_by-cons g q (current qs)) in
        rw none both
    by false ea false eb s =
        let own : (if same_key q.key k then 0 else f q) ≡ f q = ap (λ b. if b then 0 else f q) eb in
        let g : Row → ℕ = λ x. if same_key x.key k then 0 else f x in
        let both : sum_by f (q ∷ current qs) ≡ sum_by g (q ∷ current qs) + option_map_or f (last_of_key k qs) 0 =
        omega (arith, own, s, sum_by-cons f q (current qs), sum_by-cons g q (current qs)) in
        rw (or_else-none (last_of_key k qs)) both

-- the found one is in the list and is_over
pub last_such-is : {X : Type 0} (p : X → Bool) (xs : List X) (x : X) → last_such p xs ≡ Some x → p x ≡ true
last_such-is p [] x e = absurd (cc)
last_such-is {X} p (y ∷ ys) x e = by (last_such p ys) refl (p y) refl e (last_such-is p ys x)
  where
    by : (o : Option X) → last_such p ys ≡ o → (b : Bool) → p y ≡ b → or_else o (if b then Some y else None) ≡ Some x → (last_such p ys ≡ Some x → p x ≡ true) → p x ≡ true
    by (Some z) q b f e ih = ih (q ∙ e)
    by None q true f e ih = let same : y ≡ x = cc in ap p (sym same) ∙ f
    by None q false f e ih = absurd (cc)

pub last_such-in : {X : Type 0} (p q : X → Bool) (xs : List X) (x : X) → last_such p xs ≡ Some x → q x ≡ true → list_any q xs ≡ true
last_such-in p q [] x e h = absurd (cc)
last_such-in {X} p q (y ∷ ys) x e h = by (last_such p ys) refl (p y) refl e (λ f. last_such-in p q ys x f h)
  where
    by : (o : Option X) → last_such p ys ≡ o → (b : Bool) → p y ≡ b → or_else o (if b then Some y else None) ≡ Some x → (last_such p ys ≡ Some x → list_any q ys ≡ true) → (q y || list_any q ys) ≡ true
    by (Some z) r b f e ih = ap (λ t. q y || t) (ih (r ∙ e)) ∙ or-true (q y)
    by None r true f e ih = let same : y ≡ x = cc in ap (λ t. t || list_any q ys) (ap q same ∙ h)
    by None r false f e ih = absurd (cc)

-- the number of works
pub work_count-push : (rows : List Row) (r : Row) → work_count (rows ++ r ∷ []) ≡ work_count rows + (if has_work r.work rows then 0 else 1)
work_count-push [] r = refl
work_count-push (q ∷ qs) r =
    ap (λ c. (if c then 0 else 1) + work_count (qs ++ r ∷ [])) (list_any-push (λ x. x.work == q.work) qs r)
    ∙ by (q.work == r.work) refl (r.work == q.work) (eq-sym r.work q.work) (has_work q.work qs) refl (has_work r.work qs) refl (work_count-push qs r)
  where
    by : (e : Bool) → (q.work == r.work) ≡ e → (e' : Bool) → e' ≡ (q.work == r.work) → (a : Bool) → has_work q.work qs ≡ a → (b : Bool) → has_work r.work qs ≡ b → work_count (qs ++ r ∷ []) ≡ work_count qs + (if b then 0 else 1) →
        (if a || e' then 0 else 1) + work_count (qs ++ r ∷ []) ≡ ((if a then 0 else 1) + work_count qs) + (if e || b then 0 else 1)
    by true f true g true ha b hb s = let same : has_work q.work qs ≡ has_work r.work qs = ap (λ n. has_work n qs) (eqb-true _ _ f) in let t : true ≡ b = sym ha ∙ same ∙ hb in let u : work_count (qs ++ r ∷ []) ≡ work_count qs + (if true then 0 else 1) = rw (← t) at s in omega (arith, u)
    by true f true g false ha b hb s = let same : has_work q.work qs ≡ has_work r.work qs = ap (λ n. has_work n qs) (eqb-true _ _ f) in let t : false ≡ b = sym ha ∙ same ∙ hb in let u : work_count (qs ++ r ∷ []) ≡ work_count qs + (if false then 0 else 1) = rw (← t) at s in omega (arith, u)
    by true f false g a ha b hb s = absurd (true≢false (sym (g ∙ f)))
    by false f true g a ha b hb s = absurd (true≢false (g ∙ f))
    by false f false g true ha b hb s = omega (arith, s)
    by false f false g false ha b hb s = omega (arith, s)

pub work_count-le : (rows : List Row) → work_count rows ≤ length rows
work_count-le [] = omega arith
work_count-le (r ∷ rs) = by (has_work r.work rs) (work_count-le rs)
  where
    by : (b : Bool) → work_count rs ≤ length rs → (if b then 0 else 1) + work_count rs ≤ length (r ∷ rs)
    by true h = omega arith
    by false h = omega arith

pub iswc_of-push : (w : ℕ) (rows : List Row) (r : Row) → iswc_of w (rows ++ r ∷ []) ≡ (if (r.work == w) && is_some r.iswc then r.iswc else iswc_of w rows)
iswc_of-push w rows r = ap iswc_in (last_such-push (λ x. (x.work == w) && is_some x.iswc) rows r) ∙ by ((r.work == w) && is_some r.iswc)
  where
    by : (b : Bool) → iswc_in (if b then Some r else last_such (λ x. (x.work == w) && is_some x.iswc) rows) ≡ (if b then r.iswc else iswc_of w rows)
    by true = refl
    by false = refl

pub work_of_iswc-push : (i : ℕ) (rows : List Row) (r : Row) → work_of_iswc i (rows ++ r ∷ []) ≡ (if is_iswc i r.iswc then Some r.work else work_of_iswc i rows)
work_of_iswc-push i rows r = ap (option_map (λ x. x.work)) (last_such-push (λ x. is_iswc i x.iswc) rows r) ∙ by (is_iswc i r.iswc)
  where
    by : (b : Bool) → option_map (λ x. x.work) (if b then Some r else last_such (λ x. is_iswc i x.iswc) rows) ≡ (if b then Some r.work else work_of_iswc i rows)
    by true = refl
    by false = refl
