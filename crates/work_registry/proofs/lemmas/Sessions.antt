-- The entries of a session.
use Rattle.std.proofs.Common.{◌≡◌, ◌∙◌, ℕ, zero, suc, ◌<◌, ◌≤◌, Bool, true, false, cond, nat_le, List, [], ◌∷◌, All, length, refl, ap, arith}
use Rattle.std.specs.Prelude.{◌==◌}
use Rattle.std.proofs.lemmas.Bool.Decides.{nat_tests}
use Rattle.std.proofs.lemmas.List.Elements.{All-nil, All-cons}
use Rattle.cwr_field.proofs.lemmas.Tests.{parts}
use Rattle.work_registry.specs.EntryValue.{EntryValue}
use Rattle.work_registry.specs.Replay.{made, is_opening}

-- all entries of the opening are of session 0
pub none_made : (h : List EntryValue) (session : ℕ) → 1 ≤ session → is_opening h ≡ true → made h session ≡ []
none_made [] session le e = refl
none_made (x ∷ xs) session le e =
    let p = parts (x.session == 0) (is_opening xs) e in
    let opening : (x.session == 0) ≡ true = p.0 in
    let other : (x.session == session) ≡ false = grind (arith, nat_tests) in
    ap (λ (b : Bool). cond b (x ∷ made xs session) (made xs session)) other ∙ none_made xs session le p.1

none_rest : (b : Bool) (x : EntryValue) (l : List EntryValue) → cond b (x ∷ l) l ≡ [] → (b ≡ false) × (l ≡ [])
none_rest true x l e = absurd (let f = ap length e in omega arith)
none_rest false x l e = (refl, e)

inside : (s n : ℕ) → (s ≡ 0 → ⊥) → (n < s → ⊥) → (1 ≤ s) × (s ≤ n)
inside zero n f g = absurd (f refl)
inside (suc s) n f g = (omega arith, by (nat_le (suc s) n) refl) where
  by : (b : Bool) → nat_le (suc s) n ≡ b → suc s ≤ n
  by true e = grind (arith, nat_tests)
  by false e = absurd (g (grind (arith, nat_tests)))

-- where no entry is of session 0 or of one after n, all are of sessions 1 to n
pub all_inside : (n : ℕ) (es : List EntryValue) → made es 0 ≡ [] → ((s : ℕ) → n < s → made es s ≡ []) → All (λ e. (1 ≤ e.session) × (e.session ≤ n)) es
all_inside n [] none more = All-nil _
all_inside n (x ∷ es) none more =
    let own : (x.session == x.session) ≡ true = grind (arith, nat_tests) in
    let not_none : made (x ∷ es) x.session ≡ [] → ⊥ = λ e. (let t = none_rest (x.session == x.session) x (made es x.session) e in let f = t.0 in cc) in
    All-cons (λ e. (1 ≤ e.session) × (e.session ≤ n)) x es
    (inside x.session n (λ z. not_none (ap (made (x ∷ es)) z ∙ none)) (λ lt. not_none (more x.session lt)))
    (all_inside n es (none_rest (x.session == 0) x (made es 0) none).1 (λ s lt. (none_rest (x.session == s) x (made es s) (more s lt)).1))
