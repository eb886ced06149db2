use Rattle.std.proofs.Common.{arith, ◌≡◌, ◌∙◌, ◌==◌, ap, false, sym}
use Rattle.std.proofs.lemmas.Grind.{common_steps}
use Rattle.work_registry.specs.Rows.{rows_of}
use Rattle.work_registry.proofs.OtherKeys.{own-le, others-own, others-other, others-none}
use Rattle.work_registry.proofs.deciding.DecisionIndex.others.Goals as goal

pub overflow_sub-result : goal.overflow_sub-result
overflow_sub-result g c = rw (ap (λ w. w.control) c.work.ensures) (own-le 0 c.args.work c.args.key.now (rows_of c.args.self.now) c.in-Some.kept (sym c.in-Some.is ∙ c.requires) c.if-kept-work.true)

pub overflow_sub-result-then-kept-work : goal.overflow_sub-result-then-kept-work
overflow_sub-result-then-kept-work g c = rw (ap (λ w. w.control) c.work.ensures) (own-le 1 c.args.work c.args.key.now (rows_of c.args.self.now) c.in-Some.kept (sym c.in-Some.is ∙ c.requires) c.if-kept-work.true)

pub overflow_sub-result-then-kept-work-2 : goal.overflow_sub-result-then-kept-work-2
overflow_sub-result-then-kept-work-2 g c = rw (ap (λ w. w.control) c.work.ensures) (own-le 2 c.args.work c.args.key.now (rows_of c.args.self.now) c.in-Some.kept (sym c.in-Some.is ∙ c.requires) c.if-kept-work.true)

pub returns-then-kept-work : goal.returns-then-kept-work
returns-then-kept-work g c = others-own c.args.work c.args.key.now (rows_of c.args.self.now) c.in-Some.kept c.work.result.control (sym c.in-Some.is ∙ c.requires) (ap (λ w. w.control) c.work.ensures) c.if-kept-work.true

pub returns-else-kept-work : goal.returns-else-kept-work
returns-else-kept-work g c =
    let no : (c.in-Some.kept.work == c.args.work) ≡ false = grind (arith, common_steps) in
    (ap (λ w. w.control) c.work.ensures) ∙ others-other c.args.work c.args.key.now (rows_of c.args.self.now) c.in-Some.kept (sym c.in-Some.is ∙ c.requires) no

pub returns-in-None : goal.returns-in-None
returns-in-None g c = (ap (λ w. w.control) c.work.ensures) ∙ others-none c.args.work c.args.key.now (rows_of c.args.self.now) (sym c.in-None.is ∙ c.requires)
