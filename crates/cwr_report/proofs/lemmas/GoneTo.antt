-- Where a walk has gone to, and the line there.
use Rattle.std.proofs.Common.{◌≡◌, ◌∙◌, ℕ, List, ap, sym, subst}
use Rattle.cwr_report.specs.Walks.{IsWalk, line_at}
use Rattle.cwr_report.specs.declared.walk.Walk.{Walk}

-- a walk that has gone to an index of these lines has passed as many
pub gone_to : (w : Walk) (ls all : List (List ℕ)) (k : ℕ) → ls ≡ all → IsWalk w ls k → IsWalk w all w.passed
gone_to w ls all k same walk =
    subst (λ (xs : List (List ℕ)). IsWalk w xs w.passed) same (subst (λ (n : ℕ). IsWalk w ls n) (sym walk.passed_is) walk)

-- the line that it has gone to
pub line_is : (all ls : List (List ℕ)) (line : List ℕ) (k n : ℕ) → ls ≡ all → k ≡ n → line ≡ line_at ls k → line ≡ line_at all n
line_is all ls line k n same index at = at ∙ ap (λ (xs : List (List ℕ)). line_at xs k) same ∙ ap (λ (m : ℕ). line_at all m) index
