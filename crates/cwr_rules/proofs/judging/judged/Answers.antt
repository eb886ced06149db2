use Rattle.std.proofs.Common.{ℕ, List, [], ◌∷◌, ◌++◌, sym, ap, subst, ◌∙◌, append_assoc, append-nil, rules}
use Rattle.cwr_rules.specs.Judging.{IsJudging}
use Rattle.cwr_rules.proofs.judging.judged.Goals as goal

pub loop-line-init : goal.loop-line-init
loop-line-init g c = (c.parts-details.result.0.now ∷ [], (cc), search rules)

pub loop-line-preserved : goal.loop-line-preserved
loop-line-preserved g c =
    let lines = c.loop-line.invariant.0 in
    let line = c.in-Some.line.now in (
      lines ++ line ∷ [],
      append_assoc lines (line ∷ []) c.next.new.self ∙ ap (λ (xs : List (List ℕ)). lines ++ xs) (sym c.in-Some.ensures.steps) ∙ c.loop-line.invariant.1,
      c.in_ok-take.ensures c.args.transaction.now.kind lines c.loop-line.invariant.2,
    )

pub returns-clause-read : goal.returns-clause-read
returns-clause-read g c =
    let lines = c.loop-line.invariant.0 in
    let P : List (List ℕ) → Type 0 = λ xs. IsJudging c.loop-line.read c.args.transaction.now.kind xs in
    subst P (sym (append-nil lines) ∙ ap (λ (xs : List (List ℕ)). lines ++ xs) (sym c.in-None.ensures.steps.0) ∙ c.loop-line.invariant.1) c.loop-line.invariant.2
