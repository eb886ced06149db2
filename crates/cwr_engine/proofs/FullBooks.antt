-- A call that was refused, and whether the book is full.
use Rattle.std.proofs.Common.{◌≡◌, ◌↔◌, ℕ, ◌<◌, ◌≤◌, Bool, true, false, cond, length, refl, sym, subst, arith}
use Rattle.std.specs.Prelude.{nat_le}
use Rattle.std.proofs.lemmas.Bool.Decides.{nat_tests}
use Rattle.work_registry.specs.BookValue.{BookValue}
use Rattle.work_registry.specs.Refusals.{is_for_limit}
use Rattle.work_registry.specs.declared.refused.HandInError.{HandInError}
use Rattle.work_registry.specs.declared.refused.HandInError.TheVariants.{Full, Memory}
use Rattle.cwr_engine.specs.WholeRun.{is_full}

-- the book is as it was, which refused for its limit exactly where it held so many entries
pub full_exactly : (why told : HandInError) (before after : BookValue) → why ≡ told → ((length before.history ≡ before.limit) ↔ (is_for_limit told ≡ true))
    → after ≡ before → length before.history ≤ before.limit → (why ≡ Full) ↔ (is_full after ≡ true)
full_exactly why told before after as_told is same few =
    subst (λ (b : BookValue). (why ≡ Full) ↔ (is_full b ≡ true)) (sym same) (subst (λ x. (x ≡ Full) ↔ (is_full before ≡ true)) (sym as_told) (by told is)) where
      by : (x : HandInError) → ((length before.history ≡ before.limit) ↔ (is_for_limit x ≡ true)) → (x ≡ Full) ↔ (is_full before ≡ true)
      by Full is = (λ e. (let all : length before.history ≡ before.limit = is.1 refl in grind (arith, nat_tests)), λ e. refl)
      by Memory is =
          (λ e. absurd cc, λ e. absurd (let more : before.limit ≤ length before.history = grind (arith, nat_tests) in let none : false ≡ true = is.0 (omega (arith, more, few)) in cc))

-- a window at a book takes calls just of a session that a book knows
pub known_session : (session : ℕ) → 0 < cond (nat_le session 63) 4294967295 0 → session ≤ 63
known_session session some = by (nat_le session 63) refl some where
  by : (known : Bool) → nat_le session 63 ≡ known → 0 < cond known 4294967295 0 → session ≤ 63
  by true is some = grind (arith, nat_tests)
  by false is some = absurd (omega arith)
