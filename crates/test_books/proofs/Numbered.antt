-- A list whose elements are numbered from 1. Over any type.
--     numbered_more     one element more is numbered
use Rattle.std.proofs.Common.{ℕ, ◌≡◌, ◌<◌, ◌≤◌, ◌+◌, List, get_or, arith, ap, sym, ◌∙◌, ⊎_elim}
use Rattle.std.proofs.lemmas.Bool.{cases_lt}

pub numbered_more : {X : Type 0} (xs : List X) (f : ℕ → X) (n : ℕ) → ((k : ℕ) (d : X) → k < n → get_or xs k d ≡ f (k + 1)) → ((d : X) → get_or xs n d ≡ f (n + 1)) → (k : ℕ) (d : X) → k < n + 1 → get_or xs k d ≡ f (k + 1)
numbered_more {X} xs f n before here k d below = ⊎_elim (λ (less : k < n). before k d less) (λ (more : n ≤ k). let same : k ≡ n = omega (arith, below, more) in ap (λ (j : ℕ). get_or xs j d) same ∙ here d ∙ ap (λ (j : ℕ). f (j + 1)) (sym same)) (cases_lt k n)
