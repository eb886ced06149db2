use Rattle.std.proofs.Common.{◌≡◌, ◌++◌, drop}
use Rattle.rule_pages.specs.Pages.{pages_text}
use Rattle.rule_pages.proofs.pages.pages_text.Given as goal

-- what is written and what is left make the whole
abbrev pub invariant-loop-rule : goal.invariant-loop-rule
invariant-loop-rule g l = l.text.items ++ pages_text (drop l.rule-index l.rules) ≡ pages_text l.fn.rules
