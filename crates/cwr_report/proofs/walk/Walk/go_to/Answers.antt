use Rattle.std.proofs.Common.{ℕ, sym, subst, ◌∙◌}
use Rattle.cwr_report.specs.Walks.{IsWalk}
use Rattle.cwr_report.proofs.walk.Walk.go_to.Goals as goal

pub returns-then-index-self-clause-walk : goal.returns-then-index-self-clause-walk
returns-then-index-self-clause-walk c =
    c.go_on_to.ensures.walk c.args.all (subst (λ (n : ℕ). IsWalk c.new.result c.args.all n) (sym c.new.ensures.walk.passed_is) c.new.ensures.walk)

pub returns-then-index-self-clause-keeps : goal.returns-then-index-self-clause-keeps
returns-then-index-self-clause-keeps c = c.go_on_to.ensures.keeps ∙ c.new.ensures.keeps

pub returns-then-index-self-clause-line : goal.returns-then-index-self-clause-line
returns-then-index-self-clause-line c =
    c.go_on_to.ensures.line c.args.all (subst (λ (n : ℕ). IsWalk c.new.result c.args.all n) (sym c.new.ensures.walk.passed_is) c.new.ensures.walk)
