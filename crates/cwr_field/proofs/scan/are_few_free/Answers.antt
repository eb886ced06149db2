use Rattle.std.proofs.Common.{◌∙◌, sym, arith, rules}
use Rattle.cwr_field.proofs.scan.are_few_free.Goals as goal

pub loop-at-preserved : goal.loop-at-preserved
loop-at-preserved c = search rules

pub returns-then-is_sought-clause-only_then : goal.returns-then-is_sought-clause-only_then
returns-then-is_sought-clause-only_then c = λ none. sym (none c.loop-at.at (omega arith)) ∙ (sym c.is_sought.ensures ∙ c.if-is_sought.true)
